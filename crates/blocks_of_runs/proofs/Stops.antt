-- What a post has done so far is whole parts in order, and some of the next one.
use Rattle.std.proofs.Common.{◌⊎◌, ◌≡◌, ◌≤◌, ℕ, zero, suc, Bool, true, false, List, [], ◌∷◌, ◌++◌, length, append_assoc, Option, Some, None, refl, sym, ap, subst, ◌∙◌, inl, inr, arith}
use Rattle.std.proofs.lemmas.List.{length-append}
use Rattle.session_words.specs.declared.plan.PostPlan.{PostPlan}
use Rattle.post_spec.specs.Codecs.{Codecs}
use Rattle.post_spec.specs.Steps.{Step, Does, Reading}
use Rattle.station_spec.specs.States.{Agenda, Part, Timing, Eventing, Wording, State, is_done, first}
use Rattle.station_spec.specs.Deciding.{from_wording, from_timing, from_eventing, decided}
use Rattle.station_spec.specs.Acting.{state}
use Rattle.station_spec.specs.Next.{Acts}
use Rattle.blocks_of_runs.specs.Answers.{Move, behind, AreDone, IsPart, repeats, times, asks, fronts, IsWord, IsWordBy, joined}
use Rattle.blocks_of_runs.specs.CutRuns.{AreMade}
use Rattle.blocks_of_runs.specs.Stops.{IsLeft, StopsAt, StopsInWord, StopsInWords, Stops}
use Rattle.blocks_of_runs.proofs.Chains.{done_first, first_done, both, decide_not, decided_not, moves_on}
use Rattle.blocks_of_runs.proofs.Parts.{Looks, InWords, Fresh, part_next, front_done, reads_on, unread_not, word_ends, fronts_word}

-- some of an agenda, or all of it
abbrev Carries : Codecs → PostPlan → (ℕ → ℕ → Type 0) → List Step → State → List Move → Type 0
Carries c plan S steps t moves = IsLeft c t moves ⊎ ((done : List Move) × (rest : List Move) × (moves ≡ done ++ rest) × AreDone c t done × AreMade c plan S (behind done steps) rest)

more : (c : Codecs) (plan : PostPlan) (S : ℕ → ℕ → Type 0) (steps : List Step) (t : State) (m : Move) (moves : List Move) → decided plan (state plan steps) ≡ t → is_done t.agenda ≡ false → Acts c plan S (state plan steps) m.reading m.act m.taken
    → Carries c plan S (Does m.reading m.act m.taken ∷ steps) (state plan (Does m.reading m.act m.taken ∷ steps)) moves → Carries c plan S steps t (m ∷ moves)
more c plan S steps t m moves d u x k =
    let y = moves_on c plan S (state plan steps) t m d u x in
    elim k [
      | inl l ↦ inl (y.todo, y.todo_is, y.done, y.no_word, subst (λ (z : State). IsLeft c z moves) y.state_is l)
      | inr (done, rest, e, a, made) ↦ inr (m ∷ done, rest, ap (λ (xs : List Move). m ∷ xs) e, (y.todo, y.todo_is, y.done, y.no_word, subst (λ (z : State). AreDone c z done) y.state_is a), made)
    ]

carries : (b : Bool) (c : Codecs) (plan : PostPlan) (S : ℕ → ℕ → Type 0) (steps : List Step) (moves : List Move) → is_done (state plan steps).agenda ≡ b → AreMade c plan S steps moves → Carries c plan S steps (state plan steps) moves
carries true c plan S steps moves d x = inr ([], moves, refl, done_first (state plan steps).agenda d, x)
carries false c plan S steps [] d x = inl (λ f. both (is_done (state plan steps).agenda) (first_done (state plan steps).agenda f) d)
carries false c plan S steps (m ∷ moves) d x =
    more c plan S steps (state plan steps) m moves (decided_not plan (state plan steps) d) d x.0
    (carries (is_done (state plan (Does m.reading m.act m.taken ∷ steps)).agenda) c plan S (Does m.reading m.act m.taken ∷ steps) moves refl x.1)

-- a part
part_stops : (b : Bool) (c : Codecs) (plan : PostPlan) (S : ℕ → ℕ → Type 0) (p : Part) (asks : State → Agenda) (rest : State → State) (steps : List Step) (moves : List Move) → is_done (asks (state plan steps)) ≡ b → Looks plan p asks rest steps → AreMade c plan S steps moves
    → StopsAt c plan p asks (AreMade c plan S) steps moves
part_stops true c plan S p asks rest steps moves u l x = inr ([], moves, refl, done_first (asks (state plan steps)) u, x)
part_stops false c plan S p asks rest steps [] u l x = inl (λ f. both (is_done (asks (state plan steps))) (first_done (asks (state plan steps)) f) u)
part_stops false c plan S p asks rest steps (m ∷ moves) u l x =
    let s = state plan steps in
    more c plan S steps (record s { agenda = asks s; part = p }) m moves (l ∙ decide_not (asks s) p s (rest s) u) u x.0
    (carries (is_done (state plan (Does m.reading m.act m.taken ∷ steps)).agenda) c plan S (Does m.reading m.act m.taken ∷ steps) moves refl x.1)

went_on : (c : Codecs) (plan : PostPlan) (S : ℕ → ℕ → Type 0) (p : Part) (asks : State → Agenda) (WentOn : List Step → List Move → Type 0) (steps : List Step) (moves : List Move) → StopsAt c plan p asks (AreMade c plan S) steps moves
    → ((done rest : List Move) → IsPart c plan p asks steps done → AreMade c plan S (behind done steps) rest → WentOn (behind done steps) rest) → StopsAt c plan p asks WentOn steps moves
went_on c plan S p asks WentOn steps moves (inl x) f = inl x
went_on c plan S p asks WentOn steps moves (inr (done, rest, e, a, x)) f = inr (done, rest, e, a, f done rest a x)

-- a word
abbrev StopsOrWent : Codecs → PostPlan → (ℕ → ℕ → Type 0) → List Step → Move → List Move → Type 0
StopsOrWent c plan S steps m moves = StopsInWord c plan S steps m.reading m moves
    ⊎ ((done : List Move) × (last : List Move) × (moves ≡ done ++ last) × IsWord c plan S steps (m ∷ done) × AreMade c plan S (behind (m ∷ done) steps) last)

front_stops : (c : Codecs) (plan : PostPlan) (S : ℕ → ℕ → Type 0) (steps : List Step) (m : Move) (moves : List Move) (o : Option Reading) → m.reading ≡ o → o ≡ None → IsLeft c (record (state plan steps) { agenda = fronts (state plan steps); part = Wording }) (m ∷ moves)
    → StopsInWord c plan S steps o m moves
front_stops c plan S steps m moves None e n l = l
front_stops c plan S steps m moves (Some r) e n l = cc

read_stops : (c : Codecs) (plan : PostPlan) (S : ℕ → ℕ → Type 0) (steps : List Step) (m : Move) (moves : List Move) (o : Option Reading) → m.reading ≡ o → InWords plan steps → first (fronts (state plan steps)) ≡ None → AreMade c plan S steps (m ∷ moves) → StopsOrWent c plan S steps m moves
read_stops c plan S steps m moves None e at f x = unread_not c plan S steps m e at f x.0
read_stops c plan S steps m moves (Some r) e at f x =
    let y = reads_on c plan S (state plan steps) m r e at.idle (front_done plan steps at f) x.0 in
    elim (carries (is_done (state plan (Does m.reading m.act m.taken ∷ steps)).agenda) c plan S (Does m.reading m.act m.taken ∷ steps) moves refl x.1) [
      | inl l ↦ inl (subst (λ (o : Option Reading). StopsInWord c plan S steps o m moves) (sym e) (f, y.read_is, (y.todo, y.todo_is, y.done, refl, subst (λ (z : State). IsLeft c z moves) y.state_is l)))
      | inr (done, rest, es, a, made) ↦ inr (done, rest, es, subst (λ (o : Option Reading). IsWordBy c plan S steps o m done) (sym e) (f, y.read_is, (y.todo, y.todo_is, y.done, refl, subst (λ (z : State). AreDone c z done) y.state_is a)), made)
    ]

word_stops : (b : Bool) (c : Codecs) (plan : PostPlan) (S : ℕ → ℕ → Type 0) (steps : List Step) (m : Move) (moves : List Move) → is_done (fronts (state plan steps)) ≡ b → InWords plan steps → AreMade c plan S steps (m ∷ moves) → StopsOrWent c plan S steps m moves
word_stops true c plan S steps m moves u at x = read_stops c plan S steps m moves m.reading refl at (done_first (fronts (state plan steps)) u) x
word_stops false c plan S steps m moves u at x =
    let s = state plan steps in
    let y = moves_on c plan S s (record s { agenda = fronts s; part = Wording }) m (at.decides ∙ decide_not (fronts s) Wording s s u) u x.0 in
    elim (carries (is_done (state plan (Does m.reading m.act m.taken ∷ steps)).agenda) c plan S (Does m.reading m.act m.taken ∷ steps) moves refl x.1) [
      | inl l ↦ inl (front_stops c plan S steps m moves m.reading refl y.no_word (y.todo, y.todo_is, y.done, y.no_word, subst (λ (z : State). IsLeft c z moves) y.state_is l))
      | inr (done, rest, e, a, made) ↦ inr (done, rest, e, fronts_word c plan S steps m done m.reading refl y.no_word (y.todo, y.todo_is, y.done, y.no_word, subst (λ (z : State). AreDone c z done) y.state_is a), made)
    ]

words_stop : (n : ℕ) (c : Codecs) (plan : PostPlan) (S : ℕ → ℕ → Type 0) (steps : List Step) (moves : List Move) → length moves ≤ n → InWords plan steps → AreMade c plan S steps moves → StopsInWords c plan S steps moves
words_stop n c plan S steps [] less at x = ([], [], refl, tt)
words_stop zero c plan S steps (m ∷ moves) less at x = absurd (omega (arith, less))
words_stop (suc n) c plan S steps (m ∷ moves) less at x = elim (word_stops (is_done (fronts (state plan steps))) c plan S steps m moves refl at x) [
  | inl k ↦ ([], m ∷ moves, refl, k)
  | inr (done, rest, e, w, made) ↦ (
      let long = ap length e ∙ length-append done rest in
      let shorter : length rest ≤ n = omega (arith, less, long) in
      let y = words_stop n c plan S (behind (m ∷ done) steps) rest shorter (word_ends c plan S steps (m ∷ done) at w) made in (
        (m ∷ done) ∷ y.0,
        y.1,
        ap (λ (xs : List Move). m ∷ xs) (e ∙ ap (λ (xs : List Move). done ++ xs) y.2 ∙ sym (append_assoc done (joined y.0) y.1)),
        (w, y.3),
      )
      )
]

-- all parts
pub to_stops : (c : Codecs) (plan : PostPlan) (S : ℕ → ℕ → Type 0) (steps : List Step) (moves : List Move) → Fresh plan steps → AreMade c plan S steps moves → Stops c plan S steps moves
to_stops c plan S steps moves at x =
    went_on c plan S Timing repeats (StopsAt c plan Eventing times (StopsAt c plan Wording (asks plan) (StopsInWords c plan S))) steps moves
    (part_stops (is_done (repeats (state plan steps))) c plan S Timing repeats (from_timing plan) steps moves refl at.decides x)
    (λ one rest a y.
    let at1 = part_next c plan Timing repeats steps one at.idle at.decides a in
    let later = behind one steps in
    went_on c plan S Eventing times (StopsAt c plan Wording (asks plan) (StopsInWords c plan S)) later rest
    (part_stops (is_done (times (state plan later))) c plan S Eventing times (from_eventing plan) later rest refl at1.decides y)
    (λ two rest2 a2 y2.
    let at2 = part_next c plan Eventing times later two at1.idle at1.decides a2 in
    let latest = behind two later in
    went_on c plan S Wording (asks plan) (StopsInWords c plan S) latest rest2
    (part_stops (is_done (asks plan (state plan latest))) c plan S Wording (asks plan) from_wording latest rest2 refl at2.decides y2)
    (λ three rest3 a3 y3.
    words_stop (length rest3) c plan S (behind three latest) rest3 (omega arith) (part_next c plan Wording (asks plan) latest three at2.idle at2.decides a3) y3)))

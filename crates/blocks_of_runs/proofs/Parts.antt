-- What a post does until it rests is its answers, part by part.
use Rattle.std.proofs.Common.{◌≡◌, ◌≤◌, ℕ, zero, suc, Bool, true, false, List, [], ◌∷◌, ◌++◌, length, Option, Some, None, refl, sym, ap, subst, ◌∙◌, arith}
use Rattle.std.proofs.lemmas.List.{length-append}
use Rattle.session_words.specs.declared.plan.PostPlan.{PostPlan}
use Rattle.post_spec.specs.Codecs.{Judged, Negotiated, Asked, WrongSide, Refused, Codecs}
use Rattle.post_spec.specs.Steps.{Event, Step, Hears, Does, Reading}
use Rattle.station_spec.specs.States.{Agenda, Part, Repeating, Timing, Eventing, Wording, Session, State, Todo, is_done, first}
use Rattle.station_spec.specs.Deciding.{decide, from_part, from_wording, from_timing, from_eventing, decided}
use Rattle.station_spec.specs.Judging.{Payload, payload_in, wanted, judged, taken_in, read, filled, IsRead}
use Rattle.station_spec.specs.Acting.{acted, state}
use Rattle.station_spec.specs.Next.{IsQuiet, IsDone, Acts}
use Rattle.blocks_of_runs.specs.Answers.{Move, behind, AreDone, IsPart, repeats, times, asks, fronts, IsWord, IsWordBy, AreWords, joined, Answers}
use Rattle.blocks_of_runs.proofs.Chains.{Acting, done_first, first_done, some_undone, both, decide_done, decide_not, decided_done, wanted_done, acted_part, moves_on, moves_back, state_back, carry, uncarry, done_ends}

-- where the posts stand between two parts: all is done, and what is decided next is that of the parts from p on
pub record At (plan : PostPlan) (p : Part) (steps : List Step) : Type 0 where
  pub idle : is_done (state plan steps).agenda ≡ true
  pub decides : decided plan (state plan steps) ≡ from_part plan p (state plan steps)

-- a part that is looked at, and behind it the next
abbrev pub Looks : PostPlan → Part → (State → Agenda) → (State → State) → List Step → Type 0
Looks plan p asks rest steps = decided plan (state plan steps) ≡ decide (asks (state plan steps)) p (state plan steps) (rest (state plan steps))

part_first : (c : Codecs) (plan : PostPlan) (p : Part) (asks : State → Agenda) (rest : State → State) (steps : List Step) (m : Move) (moves : List Move) → Looks plan p asks rest steps → IsPart c plan p asks steps (m ∷ moves)
    → decided plan (state plan steps) ≡ record (state plan steps) { agenda = asks (state plan steps); part = p }
part_first c plan p asks rest steps m moves l (todo, f, i, n, a) =
    let s = state plan steps in l ∙ decide_not (asks s) p s (rest s) (some_undone (asks s) todo f)

part_ends : (c : Codecs) (plan : PostPlan) (p : Part) (asks : State → Agenda) (rest : State → State) (steps : List Step) (m : Move) (moves : List Move) → Looks plan p asks rest steps → IsPart c plan p asks steps (m ∷ moves) → At plan p (behind (m ∷ moves) steps)
part_ends c plan p asks rest steps m moves l (todo, f, i, n, a) =
    let s = state plan steps in
    let t : State = record s { agenda = asks s; part = p } in
    let e = state_back plan s t m (part_first c plan p asks rest steps m moves l (todo, f, i, n, a)) n in
    let k = done_ends c plan (Does m.reading m.act m.taken ∷ steps) moves (subst (λ (x : State). AreDone c x moves) (sym e) a) in
    let part = k.part_is ∙ ap (λ (x : State). x.part) e ∙ acted_part m.act m.taken t in
    record {
      idle = k.idle;
      decides = decided_done plan (state plan (behind (m ∷ moves) steps)) k.idle ∙ ap (λ (x : Part). from_part plan x (state plan (behind (m ∷ moves) steps))) part;
    }

-- behind a part
pub part_next : (c : Codecs) (plan : PostPlan) (p : Part) (asks : State → Agenda) (steps : List Step) (moves : List Move) → is_done (state plan steps).agenda ≡ true → Looks plan p asks (from_part plan p) steps → IsPart c plan p asks steps moves → At plan p (behind moves steps)
part_next c plan p asks steps [] d l a = let s = state plan steps in record { idle = d; decides = l ∙ decide_done (asks s) p s (from_part plan p s) (first_done (asks s) a) }
part_next c plan p asks steps (m ∷ moves) d l a = part_ends c plan p asks (from_part plan p) steps m moves l a

-- the moves of a part, and those behind it
pub record Parted (c : Codecs) (plan : PostPlan) (S : ℕ → ℕ → Type 0) (p : Part) (asks : State → Agenda) (steps : List Step) (moves : List Move) : Type 0 where
  pub done : List Move
  pub rest : List Move
  pub moves_are : moves ≡ done ++ rest
  pub are : IsPart c plan p asks steps done
  pub acting : Acting c plan S (behind done steps) rest

undone_part : (c : Codecs) (plan : PostPlan) (S : ℕ → ℕ → Type 0) (p : Part) (asks : State → Agenda) (rest : State → State) (steps : List Step) (m : Move) (moves : List Move) → is_done (asks (state plan steps)) ≡ false → Looks plan p asks rest steps
    → Acting c plan S steps (m ∷ moves) → (done : List Move) × (last : List Move) × (moves ≡ done ++ last) × IsPart c plan p asks steps (m ∷ done) × Acting c plan S (behind (m ∷ done) steps) last
undone_part c plan S p asks rest steps m moves u l x =
    let s = state plan steps in
    let t : State = record s { agenda = asks s; part = p } in
    let y = moves_on c plan S s t m (l ∙ decide_not (asks s) p s (rest s) u) u x.0 in
    let k = carry c plan S (Does m.reading m.act m.taken ∷ steps) moves x.1 in
    (k.done, k.rest, k.moves_are, (y.todo, y.todo_is, y.done, y.no_word, subst (λ (z : State). AreDone c z k.done) y.state_is k.are), k.acting)

not_quiet : (plan : PostPlan) (p : Part) (asks : State → Agenda) (rest : State → State) (s : State) → decided plan s ≡ decide (asks s) p s (rest s) → is_done (asks s) ≡ false → IsQuiet plan s → is_done (asks s) ≡ true
not_quiet plan p asks rest s l u q =
    sym (ap (λ (t : State). is_done t.agenda) (l ∙ decide_not (asks s) p s (rest s) u)) ∙ first_done (decided plan s).agenda q.none

part_if : (b : Bool) (c : Codecs) (plan : PostPlan) (S : ℕ → ℕ → Type 0) (p : Part) (asks : State → Agenda) (rest : State → State) (steps : List Step) (moves : List Move) → is_done (asks (state plan steps)) ≡ b → Looks plan p asks rest steps → Acting c plan S steps moves
    → Parted c plan S p asks steps moves
part_if true c plan S p asks rest steps moves u l x = record { done = []; rest = moves; moves_are = refl; are = done_first (asks (state plan steps)) u; acting = x }
part_if false c plan S p asks rest steps [] u l q = both (is_done (asks (state plan steps))) (not_quiet plan p asks rest (state plan steps) l u q) u
part_if false c plan S p asks rest steps (m ∷ moves) u l x =
    let k = undone_part c plan S p asks rest steps m moves u l x in
    record { done = m ∷ k.0; rest = k.1; moves_are = ap (λ (xs : List Move). m ∷ xs) k.2; are = k.3; acting = k.4 }

part_out : (c : Codecs) (plan : PostPlan) (S : ℕ → ℕ → Type 0) (p : Part) (asks : State → Agenda) (rest : State → State) (steps : List Step) (moves : List Move) → Looks plan p asks rest steps → Acting c plan S steps moves → Parted c plan S p asks steps moves
part_out c plan S p asks rest steps moves l x = part_if (is_done (asks (state plan steps))) c plan S p asks rest steps moves refl l x

part_back : (c : Codecs) (plan : PostPlan) (S : ℕ → ℕ → Type 0) (p : Part) (asks : State → Agenda) (rest : State → State) (steps : List Step) (done last : List Move) → Looks plan p asks rest steps → IsPart c plan p asks steps done → Acting c plan S (behind done steps) last
    → Acting c plan S steps (done ++ last)
part_back c plan S p asks rest steps [] last l a x = x
part_back c plan S p asks rest steps (m ∷ done) last l (todo, f, i, n, a) x =
    let s = state plan steps in
    let t : State = record s { agenda = asks s; part = p } in
    let d = part_first c plan p asks rest steps m done l (todo, f, i, n, a) in (
      moves_back c plan S s t m todo d f i n,
      uncarry c plan S (Does m.reading m.act m.taken ∷ steps) done last (subst (λ (z : State). AreDone c z done) (sym (state_back plan s t m d n)) a) x,
    )

-- the words
abbrev pub InWords : PostPlan → List Step → Type 0
InWords plan steps = At plan Wording steps

pub front_done : (plan : PostPlan) (steps : List Step) → InWords plan steps → first (fronts (state plan steps)) ≡ None → decided plan (state plan steps) ≡ state plan steps
front_done plan steps at f = let s = state plan steps in at.decides ∙ decide_done (fronts s) Wording s s (first_done (fronts s) f)

-- a word that is read
judged_part : (plan : PostPlan) (s : State) (ss : Session) (w : Judged) (shown : ℕ) → (judged plan s ss w shown).part ≡ Wording
judged_part plan s ss (Negotiated chosen response) shown = refl
judged_part plan s ss (Asked r) shown = refl
judged_part plan s ss WrongSide shown = refl
judged_part plan s ss Refused shown = refl

taken_part : (c : Codecs) (plan : PostPlan) (S : ℕ → ℕ → Type 0) (s : State) (kept : Option Session) (r : Reading) → IsRead c plan S s (payload_in kept) (Some r) → (taken_in plan s kept r).part ≡ Wording
taken_part c plan S s None r i = absurd i
taken_part c plan S s (Some ss) r i = judged_part plan s ss r.judged r.shown

-- how a word that is read moves
pub record Reads (c : Codecs) (plan : PostPlan) (S : ℕ → ℕ → Type 0) (s : State) (m : Move) (r : Reading) : Type 0 where
  pub read_is : IsRead c plan S s (payload_in s.session) (Some r)
  pub todo : Todo
  pub todo_is : first (read plan s (Some r)).agenda ≡ Some todo
  pub done : IsDone c todo m.act m.taken
  pub state_is : acted m.act m.taken (filled plan m.reading s) ≡ acted m.act m.taken (read plan s (Some r))

pub reads_on : (c : Codecs) (plan : PostPlan) (S : ℕ → ℕ → Type 0) (s : State) (m : Move) (r : Reading) → m.reading ≡ Some r → is_done s.agenda ≡ true → decided plan s ≡ s → Acts c plan S s m.reading m.act m.taken → Reads c plan S s m r
reads_on c plan S s m r e idle d x =
    let i : IsRead c plan S s (wanted s) m.reading = subst (λ (t : State). IsRead c plan S t (wanted t) m.reading) d x.read in
    let j : IsRead c plan S s (payload_in s.session) m.reading = subst (λ (w : Option Payload). IsRead c plan S s w m.reading) (wanted_done s idle) i in
    let same : filled plan m.reading s ≡ read plan s (Some r) = ap (λ (t : State). read plan t m.reading) d ∙ ap (read plan s) e in
    record {
      read_is = subst (λ (y : Option Reading). IsRead c plan S s (payload_in s.session) y) e j;
      todo = x.todo;
      todo_is = ap (λ (t : State). first t.agenda) (sym same) ∙ x.acts;
      done = x.done;
      state_is = ap (acted m.act m.taken) same;
    }

reads_back : (c : Codecs) (plan : PostPlan) (S : ℕ → ℕ → Type 0) (s : State) (m : Move) (r : Reading) (todo : Todo) → m.reading ≡ Some r → is_done s.agenda ≡ true → decided plan s ≡ s → IsRead c plan S s (payload_in s.session) (Some r)
    → first (read plan s (Some r)).agenda ≡ Some todo → IsDone c todo m.act m.taken → Acts c plan S s m.reading m.act m.taken
reads_back c plan S s m r todo e idle d i f k =
    let same : filled plan m.reading s ≡ read plan s (Some r) = ap (λ (t : State). read plan t m.reading) d ∙ ap (read plan s) e in
    let j : IsRead c plan S s (payload_in s.session) m.reading = subst (λ (y : Option Reading). IsRead c plan S s (payload_in s.session) y) (sym e) i in
    record {
      read = subst (λ (t : State). IsRead c plan S t (wanted t) m.reading) (sym d) (subst (λ (w : Option Payload). IsRead c plan S s w m.reading) (sym (wanted_done s idle)) j);
      todo = todo;
      acts = ap (λ (t : State). first t.agenda) same ∙ f;
      done = k;
    }

word_state : (plan : PostPlan) (s : State) (m : Move) (r : Reading) → m.reading ≡ Some r → decided plan s ≡ s → acted m.act m.taken (filled plan m.reading s) ≡ acted m.act m.taken (read plan s (Some r))
word_state plan s m r e d = ap (acted m.act m.taken) (ap (λ (t : State). read plan t m.reading) d ∙ ap (read plan s) e)

-- behind a word
word_ends_by : (c : Codecs) (plan : PostPlan) (S : ℕ → ℕ → Type 0) (steps : List Step) (o : Option Reading) (m : Move) (moves : List Move) → m.reading ≡ o → InWords plan steps → IsWordBy c plan S steps o m moves → InWords plan (behind (m ∷ moves) steps)
word_ends_by c plan S steps None m moves e at w = part_ends c plan Wording fronts (λ s. s) steps m moves at.decides w
word_ends_by c plan S steps (Some r) m moves e at (f, i, (todo, g, k, n, a)) =
    let s = state plan steps in
    let t = word_state plan s m r e (front_done plan steps at f) in
    let z = done_ends c plan (Does m.reading m.act m.taken ∷ steps) moves (subst (λ (x : State). AreDone c x moves) (sym t) a) in
    let part = z.part_is ∙ ap (λ (x : State). x.part) t ∙ acted_part m.act m.taken (read plan s (Some r)) ∙ taken_part c plan S s s.session r i in
    record {
      idle = z.idle;
      decides = decided_done plan (state plan (behind (m ∷ moves) steps)) z.idle ∙ ap (λ (x : Part). from_part plan x (state plan (behind (m ∷ moves) steps))) part;
    }

pub word_ends : (c : Codecs) (plan : PostPlan) (S : ℕ → ℕ → Type 0) (steps : List Step) (moves : List Move) → InWords plan steps → IsWord c plan S steps moves → InWords plan (behind moves steps)
word_ends c plan S steps [] at w = absurd w
word_ends c plan S steps (m ∷ moves) at w = word_ends_by c plan S steps m.reading m moves refl at w

word_back_by : (c : Codecs) (plan : PostPlan) (S : ℕ → ℕ → Type 0) (steps : List Step) (o : Option Reading) (m : Move) (moves last : List Move) → m.reading ≡ o → InWords plan steps → IsWordBy c plan S steps o m moves → Acting c plan S (behind (m ∷ moves) steps) last
    → Acting c plan S steps (m ∷ moves ++ last)
word_back_by c plan S steps None m moves last e at w x = part_back c plan S Wording fronts (λ s. s) steps (m ∷ moves) last at.decides w x
word_back_by c plan S steps (Some r) m moves last e at (f, i, (todo, g, k, n, a)) x =
    let s = state plan steps in
    let d = front_done plan steps at f in (
      reads_back c plan S s m r todo e at.idle d i g k,
      uncarry c plan S (Does m.reading m.act m.taken ∷ steps) moves last (subst (λ (z : State). AreDone c z moves) (sym (word_state plan s m r e d)) a) x,
    )

word_back : (c : Codecs) (plan : PostPlan) (S : ℕ → ℕ → Type 0) (steps : List Step) (moves last : List Move) → InWords plan steps → IsWord c plan S steps moves → Acting c plan S (behind moves steps) last → Acting c plan S steps (moves ++ last)
word_back c plan S steps [] last at w x = absurd w
word_back c plan S steps (m ∷ moves) last at w x = word_back_by c plan S steps m.reading m moves last refl at w x

words_back : (c : Codecs) (plan : PostPlan) (S : ℕ → ℕ → Type 0) (steps : List Step) (words : List (List Move)) → InWords plan steps → AreWords c plan S steps words → Acting c plan S steps (joined words)
words_back c plan S steps [] at w =
    let s = state plan steps in
    let d = front_done plan steps at w.0 in
    record {
      none = ap (λ (t : State). first t.agenda) d ∙ done_first s.agenda at.idle;
      no_word = ap wanted d ∙ wanted_done s at.idle ∙ w.1;
    }
words_back c plan S steps (word ∷ words) at w =
    word_back c plan S steps word (joined words) at w.0 (words_back c plan S (behind word steps) words (word_ends c plan S steps word at w.0) w.1)

-- the words of what is done
pub record Worded (c : Codecs) (plan : PostPlan) (S : ℕ → ℕ → Type 0) (steps : List Step) (moves : List Move) : Type 0 where
  pub words : List (List Move)
  pub moves_are : moves ≡ joined words
  pub are : AreWords c plan S steps words

pub record OneWord (c : Codecs) (plan : PostPlan) (S : ℕ → ℕ → Type 0) (steps : List Step) (m : Move) (moves : List Move) : Type 0 where
  pub done : List Move
  pub last : List Move
  pub moves_are : moves ≡ done ++ last
  pub is : IsWord c plan S steps (m ∷ done)
  pub acting : Acting c plan S (behind (m ∷ done) steps) last

pub fronts_word : (c : Codecs) (plan : PostPlan) (S : ℕ → ℕ → Type 0) (steps : List Step) (m : Move) (done : List Move) (o : Option Reading) → m.reading ≡ o → o ≡ None → IsPart c plan Wording fronts steps (m ∷ done) → IsWordBy c plan S steps o m done
fronts_word c plan S steps m done None e n a = a
fronts_word c plan S steps m done (Some r) e n a = cc

-- where nothing is left to do, a post does nothing without a word
pub unread_not : {A : Type 0} (c : Codecs) (plan : PostPlan) (S : ℕ → ℕ → Type 0) (steps : List Step) (m : Move) → m.reading ≡ None → InWords plan steps → first (fronts (state plan steps)) ≡ None → Acts c plan S (state plan steps) m.reading m.act m.taken → A
unread_not c plan S steps m e at f x =
    let s = state plan steps in
    let d = front_done plan steps at f in
    let g = ap (λ (r : Option Reading). first (filled plan r s).agenda) (sym e) ∙ x.acts in
    both (is_done s.agenda) at.idle (some_undone s.agenda x.todo (ap (λ (t : State). first t.agenda) (sym d) ∙ g))

read_word : (c : Codecs) (plan : PostPlan) (S : ℕ → ℕ → Type 0) (steps : List Step) (m : Move) (moves : List Move) (o : Option Reading) → m.reading ≡ o → InWords plan steps → first (fronts (state plan steps)) ≡ None → Acting c plan S steps (m ∷ moves) → OneWord c plan S steps m moves
read_word c plan S steps m moves None e at f x = unread_not c plan S steps m e at f x.0
read_word c plan S steps m moves (Some r) e at f x =
    let s = state plan steps in
    let y = reads_on c plan S s m r e at.idle (front_done plan steps at f) x.0 in
    let k = carry c plan S (Does m.reading m.act m.taken ∷ steps) moves x.1 in
    record {
      done = k.done;
      last = k.rest;
      moves_are = k.moves_are;
      is = subst (λ (o : Option Reading). IsWordBy c plan S steps o m k.done) (sym e) (f, y.read_is, (y.todo, y.todo_is, y.done, refl, subst (λ (z : State). AreDone c z k.done) y.state_is k.are));
      acting = k.acting;
    }

one_word : (b : Bool) (c : Codecs) (plan : PostPlan) (S : ℕ → ℕ → Type 0) (steps : List Step) (m : Move) (moves : List Move) → is_done (fronts (state plan steps)) ≡ b → InWords plan steps → Acting c plan S steps (m ∷ moves) → OneWord c plan S steps m moves
one_word true c plan S steps m moves u at x = read_word c plan S steps m moves m.reading refl at (done_first (fronts (state plan steps)) u) x
one_word false c plan S steps m moves u at x =
    let k = undone_part c plan S Wording fronts (λ s. s) steps m moves u at.decides x in
    record { done = k.0; last = k.1; moves_are = k.2; is = fronts_word c plan S steps m k.0 m.reading refl k.3.3 k.3; acting = k.4 }

rest_words : (b : Bool) (c : Codecs) (plan : PostPlan) (S : ℕ → ℕ → Type 0) (steps : List Step) → is_done (fronts (state plan steps)) ≡ b → InWords plan steps → IsQuiet plan (state plan steps) → AreWords c plan S steps []
rest_words true c plan S steps u at q =
    let s = state plan steps in
    let f = done_first (fronts s) u in
    (f, sym (wanted_done s at.idle) ∙ sym (ap wanted (front_done plan steps at f)) ∙ q.no_word)
rest_words false c plan S steps u at q = both (is_done (fronts (state plan steps))) (not_quiet plan Wording fronts (λ s. s) (state plan steps) at.decides u q) u

words_out : (n : ℕ) (c : Codecs) (plan : PostPlan) (S : ℕ → ℕ → Type 0) (steps : List Step) (moves : List Move) → length moves ≤ n → InWords plan steps → Acting c plan S steps moves → Worded c plan S steps moves
words_out n c plan S steps [] less at x = record { words = []; moves_are = refl; are = rest_words (is_done (fronts (state plan steps))) c plan S steps refl at x }
words_out zero c plan S steps (m ∷ moves) less at x = absurd (omega (arith, less))
words_out (suc n) c plan S steps (m ∷ moves) less at x =
    let k = one_word (is_done (fronts (state plan steps))) c plan S steps m moves refl at x in
    let long = ap length k.moves_are ∙ length-append k.done k.last in
    let shorter : length k.last ≤ n = omega (arith, less, long) in
    let y = words_out n c plan S (behind (m ∷ k.done) steps) k.last shorter (word_ends c plan S steps (m ∷ k.done) at k.is) k.acting in
    record {
      words = (m ∷ k.done) ∷ y.words;
      moves_are = ap (λ (xs : List Move). m ∷ xs) (k.moves_are ∙ ap (λ (xs : List Move). k.done ++ xs) y.moves_are);
      are = (k.is, y.are);
    }

-- all parts. A hearing stands at the first
abbrev pub Fresh : PostPlan → List Step → Type 0
Fresh plan steps = At plan Repeating steps

pub hearing_fresh : (plan : PostPlan) (at : ℕ) (e : Event) (steps : List Step) → Fresh plan (Hears at e ∷ steps)
hearing_fresh plan at e steps = record { idle = refl; decides = refl }

four_parts : (moves one rest two last three words joint : List Move) → moves ≡ one ++ rest → rest ≡ two ++ last → last ≡ three ++ words → words ≡ joint → moves ≡ one ++ (two ++ (three ++ joint))
four_parts moves one rest two last three words joint h k l m = h ∙ ap (λ (xs : List Move). one ++ xs) (k ∙ ap (λ (xs : List Move). two ++ xs) (l ∙ ap (λ (xs : List Move). three ++ xs) m))

pub to_answers : (c : Codecs) (plan : PostPlan) (S : ℕ → ℕ → Type 0) (steps : List Step) (moves : List Move) → Fresh plan steps → Acting c plan S steps moves → Answers c plan S steps moves
to_answers c plan S steps moves at x =
    let one = part_out c plan S Timing repeats (from_timing plan) steps moves at.decides x in
    let at1 = part_next c plan Timing repeats steps one.done at.idle at.decides one.are in
    let two = part_out c plan S Eventing times (from_eventing plan) (behind one.done steps) one.rest at1.decides one.acting in
    let at2 = part_next c plan Eventing times (behind one.done steps) two.done at1.idle at1.decides two.are in
    let three = part_out c plan S Wording (asks plan) from_wording (behind two.done (behind one.done steps)) two.rest at2.decides two.acting in
    let at3 = part_next c plan Wording (asks plan) (behind two.done (behind one.done steps)) three.done at2.idle at2.decides three.are in
    let four = words_out (length three.rest) c plan S (behind three.done (behind two.done (behind one.done steps))) three.rest (omega arith) at3 three.acting in
    record {
      repeated = one.done;
      timed = two.done;
      asked = three.done;
      words = four.words;
      moves_are = four_parts moves one.done one.rest two.done two.rest three.done three.rest (joined four.words) one.moves_are two.moves_are three.moves_are four.moves_are;
      first = one.are;
      second = two.are;
      third = three.are;
      last = four.are;
    }

pub from_answers : (c : Codecs) (plan : PostPlan) (S : ℕ → ℕ → Type 0) (steps : List Step) (moves : List Move) → Fresh plan steps → Answers c plan S steps moves → Acting c plan S steps moves
from_answers c plan S steps moves at a =
    let at1 = part_next c plan Timing repeats steps a.repeated at.idle at.decides a.first in
    let at2 = part_next c plan Eventing times (behind a.repeated steps) a.timed at1.idle at1.decides a.second in
    let at3 = part_next c plan Wording (asks plan) (behind a.timed (behind a.repeated steps)) a.asked at2.idle at2.decides a.third in
    let four = words_back c plan S (behind a.asked (behind a.timed (behind a.repeated steps))) a.words at3 a.last in
    let three = part_back c plan S Wording (asks plan) from_wording (behind a.timed (behind a.repeated steps)) a.asked (joined a.words) at2.decides a.third four in
    let two = part_back c plan S Eventing times (from_eventing plan) (behind a.repeated steps) a.timed (a.asked ++ joined a.words) at1.decides a.second three in
    let one = part_back c plan S Timing repeats (from_timing plan) steps a.repeated (a.timed ++ (a.asked ++ joined a.words)) at.decides a.first two in
    subst (Acting c plan S steps) (sym a.moves_are) one

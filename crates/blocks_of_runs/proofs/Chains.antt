-- What a post does one thing after another, until it has nothing to do.
use Rattle.std.proofs.Common.{◌≡◌, ℕ, Bool, true, false, List, [], ◌∷◌, ◌++◌, Option, Some, None, refl, sym, ap, subst, ◌∙◌}
use Rattle.session_words.specs.declared.plan.PostPlan.{PostPlan}
use Rattle.post_spec.specs.Codecs.{Codecs}
use Rattle.post_spec.specs.Steps.{Act, Give, Send, Answer, End, Step, Does, Reading}
use Rattle.station_spec.specs.States.{Agenda, Part, State, Todo, is_done, is_none, first}
use Rattle.station_spec.specs.Deciding.{decide, from_part, decided}
use Rattle.station_spec.specs.Judging.{Payload, payload_in, wanted, filled, IsRead}
use Rattle.station_spec.specs.Acting.{acted, state}
use Rattle.station_spec.specs.Next.{IsQuiet, IsDone, Acts}
use Rattle.blocks_of_runs.specs.Answers.{Move, behind, AreDone}

abbrev pub Acting : Codecs → PostPlan → (ℕ → ℕ → Type 0) → List Step → List Move → Type 0
Acting c plan S steps [] = IsQuiet plan (state plan steps)
Acting c plan S steps (m ∷ moves) = Acts c plan S (state plan steps) m.reading m.act m.taken × Acting c plan S (Does m.reading m.act m.taken ∷ steps) moves

-- nothing on the agenda
none_todo : (o : Option Todo) → is_none o ≡ true → o ≡ None
none_todo None h = refl
none_todo (Some x) h = cc

pub done_first : (a : Agenda) → is_done a ≡ true → first a ≡ None
done_first a h = none_todo (first a) h

pub first_done : (a : Agenda) → first a ≡ None → is_done a ≡ true
first_done a h = ap is_none h

pub some_undone : (a : Agenda) (todo : Todo) → first a ≡ Some todo → is_done a ≡ false
some_undone a todo h = ap is_none h

pub both : {A : Type 0} (b : Bool) → b ≡ true → b ≡ false → A
both true h k = cc
both false h k = cc

-- what is decided
pub decide_done : (agenda : Agenda) (part : Part) (s rest : State) → is_done agenda ≡ true → decide agenda part s rest ≡ rest
decide_done agenda part s rest e = rw e refl

pub decide_not : (agenda : Agenda) (part : Part) (s rest : State) → is_done agenda ≡ false → decide agenda part s rest ≡ record s { agenda = agenda; part = part }
decide_not agenda part s rest e = rw e refl

pub decided_done : (plan : PostPlan) (s : State) → is_done s.agenda ≡ true → decided plan s ≡ from_part plan s.part s
decided_done plan s d = rw d refl

pub decided_not : (plan : PostPlan) (s : State) → is_done s.agenda ≡ false → decided plan s ≡ s
decided_not plan s d = rw d refl

wanted_not : (s : State) → is_done s.agenda ≡ false → wanted s ≡ None
wanted_not s d = rw d refl

pub wanted_done : (s : State) → is_done s.agenda ≡ true → wanted s ≡ payload_in s.session
wanted_done s d = rw d refl

unread : (c : Codecs) (plan : PostPlan) (S : ℕ → ℕ → Type 0) (s : State) (r : Option Reading) → IsRead c plan S s None r → r ≡ None
unread c plan S s None i = refl
unread c plan S s (Some r) i = absurd i

-- where something is left to do no word is read
pub no_reading : (c : Codecs) (plan : PostPlan) (S : ℕ → ℕ → Type 0) (t : State) (r : Option Reading) → is_done t.agenda ≡ false → IsRead c plan S t (wanted t) r → r ≡ None
no_reading c plan S t r d i = unread c plan S t r (subst (λ (w : Option Payload). IsRead c plan S t w r) (wanted_not t d) i)

pub is_unread : (c : Codecs) (plan : PostPlan) (S : ℕ → ℕ → Type 0) (t : State) (r : Option Reading) → is_done t.agenda ≡ false → r ≡ None → IsRead c plan S t (wanted t) r
is_unread c plan S t r d e =
    subst (λ (w : Option Payload). IsRead c plan S t w r) (sym (wanted_not t d)) (subst (λ (x : Option Reading). IsRead c plan S t None x) (sym e) tt)

pub acted_part : (a : Act) (taken : Bool) (s : State) → (acted a taken s).part ≡ s.part
acted_part (Give o) true s = refl
acted_part (Give o) false s = refl
acted_part (Send bytes) true s = refl
acted_part (Send bytes) false s = refl
acted_part (Answer bytes) taken s = refl
acted_part (End cause) taken s = refl

-- one move without a word: from a state in which t is decided
pub record Moves (c : Codecs) (plan : PostPlan) (S : ℕ → ℕ → Type 0) (s t : State) (m : Move) : Type 0 where
  pub todo : Todo
  pub todo_is : first t.agenda ≡ Some todo
  pub done : IsDone c todo m.act m.taken
  pub no_word : m.reading ≡ None
  pub state_is : acted m.act m.taken (filled plan m.reading s) ≡ acted m.act m.taken t

move_by : (c : Codecs) (plan : PostPlan) (S : ℕ → ℕ → Type 0) (s t : State) (m : Move) → decided plan s ≡ t → (r : Option Reading) → m.reading ≡ r → r ≡ None → (todo : Todo) → first (filled plan r s).agenda ≡ Some todo → IsDone c todo m.act m.taken → Moves c plan S s t m
move_by c plan S s t m d None e n todo f i = record {
  todo = todo;
  todo_is = ap (λ (x : State). first x.agenda) (sym d) ∙ f;
  done = i;
  no_word = e;
  state_is = ap (λ (r : Option Reading). acted m.act m.taken (filled plan r s)) e ∙ ap (acted m.act m.taken) d;
}
move_by c plan S s t m d (Some r) e n todo f i = cc

pub moves_on : (c : Codecs) (plan : PostPlan) (S : ℕ → ℕ → Type 0) (s t : State) (m : Move) → decided plan s ≡ t → is_done t.agenda ≡ false → Acts c plan S s m.reading m.act m.taken → Moves c plan S s t m
moves_on c plan S s t m d u x =
    let n = no_reading c plan S (decided plan s) m.reading (ap (λ (y : State). is_done y.agenda) d ∙ u) x.read in
    move_by c plan S s t m d m.reading refl n x.todo x.acts x.done

pub moves_back : (c : Codecs) (plan : PostPlan) (S : ℕ → ℕ → Type 0) (s t : State) (m : Move) (todo : Todo) → decided plan s ≡ t → first t.agenda ≡ Some todo → IsDone c todo m.act m.taken → m.reading ≡ None → Acts c plan S s m.reading m.act m.taken
moves_back c plan S s t m todo d f i n = record {
  read = is_unread c plan S (decided plan s) m.reading (ap (λ (y : State). is_done y.agenda) d ∙ some_undone t.agenda todo f) n;
  todo = todo;
  acts = ap (λ (r : Option Reading). first (filled plan r s).agenda) n ∙ ap (λ (y : State). first y.agenda) d ∙ f;
  done = i;
}

pub state_back : (plan : PostPlan) (s t : State) (m : Move) → decided plan s ≡ t → m.reading ≡ None → acted m.act m.taken (filled plan m.reading s) ≡ acted m.act m.taken t
state_back plan s t m d n = ap (λ (r : Option Reading). acted m.act m.taken (filled plan r s)) n ∙ ap (acted m.act m.taken) d

-- all that is on an agenda
pub record Carried (c : Codecs) (plan : PostPlan) (S : ℕ → ℕ → Type 0) (steps : List Step) (moves : List Move) : Type 0 where
  pub done : List Move
  pub rest : List Move
  pub moves_are : moves ≡ done ++ rest
  pub are : AreDone c (state plan steps) done
  pub acting : Acting c plan S (behind done steps) rest

carry_if : (b : Bool) (c : Codecs) (plan : PostPlan) (S : ℕ → ℕ → Type 0) (steps : List Step) (moves : List Move) → is_done (state plan steps).agenda ≡ b → Acting c plan S steps moves → Carried c plan S steps moves
carry_if true c plan S steps moves d x = record { done = []; rest = moves; moves_are = refl; are = done_first (state plan steps).agenda d; acting = x }
carry_if false c plan S steps [] d q =
    both (is_done (state plan steps).agenda) (ap (λ (t : State). is_done t.agenda) (sym (decided_not plan (state plan steps) d)) ∙ first_done (decided plan (state plan steps)).agenda q.none) d
carry_if false c plan S steps (m ∷ moves) d x =
    let s = state plan steps in
    let y = moves_on c plan S s s m (decided_not plan s d) d x.0 in
    let k = carry_if (is_done (state plan (Does m.reading m.act m.taken ∷ steps)).agenda) c plan S (Does m.reading m.act m.taken ∷ steps) moves refl x.1 in
    record {
      done = m ∷ k.done;
      rest = k.rest;
      moves_are = ap (λ (xs : List Move). m ∷ xs) k.moves_are;
      are = (y.todo, y.todo_is, y.done, y.no_word, subst (λ (t : State). AreDone c t k.done) y.state_is k.are);
      acting = k.acting;
    }

pub carry : (c : Codecs) (plan : PostPlan) (S : ℕ → ℕ → Type 0) (steps : List Step) (moves : List Move) → Acting c plan S steps moves → Carried c plan S steps moves
carry c plan S steps moves x = carry_if (is_done (state plan steps).agenda) c plan S steps moves refl x

pub uncarry : (c : Codecs) (plan : PostPlan) (S : ℕ → ℕ → Type 0) (steps : List Step) (done rest : List Move) → AreDone c (state plan steps) done → Acting c plan S (behind done steps) rest → Acting c plan S steps (done ++ rest)
uncarry c plan S steps [] rest a x = x
uncarry c plan S steps (m ∷ done) rest (todo, f, i, n, a) x =
    let s = state plan steps in
    let d = decided_not plan s (some_undone s.agenda todo f) in (
      moves_back c plan S s s m todo d f i n,
      uncarry c plan S (Does m.reading m.act m.taken ∷ steps) done rest (subst (λ (t : State). AreDone c t done) (sym (state_back plan s s m d n)) a) x,
    )

-- behind it nothing is left, and the part is the same
pub record Ended (plan : PostPlan) (steps later : List Step) : Type 0 where
  pub idle : is_done (state plan later).agenda ≡ true
  pub part_is : (state plan later).part ≡ (state plan steps).part

pub done_ends : (c : Codecs) (plan : PostPlan) (steps : List Step) (done : List Move) → AreDone c (state plan steps) done → Ended plan steps (behind done steps)
done_ends c plan steps [] a = record { idle = first_done (state plan steps).agenda a; part_is = refl }
done_ends c plan steps (m ∷ done) (todo, f, i, n, a) =
    let s = state plan steps in
    let e = state_back plan s s m (decided_not plan s (some_undone s.agenda todo f)) n in
    let k = done_ends c plan (Does m.reading m.act m.taken ∷ steps) done (subst (λ (t : State). AreDone c t done) (sym e) a) in
    record { idle = k.idle; part_is = k.part_is ∙ ap (λ (t : State). t.part) e ∙ acted_part m.act m.taken s }

-- An event that is put where it is the next one.
use Rattle.std.proofs.Common.{slice_index_or, drop, zero, suc, add-one, ◌≡◌, ℕ, ◌+◌, ◌*◌, ◌<◌, ◌≤◌, Bool, List, [], ◌∷◌, ◌++◌, length, length-append, append_assoc, Option, Some, None, OnSome, Result, Ok, Err, OnOk, inl, inr, refl, sym, ap, subst, ◌∙◌, arith}
use Rattle.exi_bits.specs.declared.pen.Full.{Full}
use Rattle.exi_schema.specs.Schemas.{PlainSchema}
use Rattle.exi_events.specs.Grammar.{State, Moves}
use Rattle.exi_events.specs.Trees.{Event, Start, Attribute, Content, EndElement, Trees, Value}
use Rattle.exi_events.specs.Short.{tree_of}
use Rattle.exi_events.specs.Child.{PutsChild, PutsThree, PutsRest, PutsOptional}
use Rattle.exi_events.specs.declared.child.OptionalChildren.{OptionalChildren}
use Rattle.exi_events.specs.declared.child.ThreeChildren.{ThreeChildren}
use Rattle.exi_events.specs.declared.child.NamedValue.{NamedValue}
use Rattle.message_parts.specs.Contents.{Inside as Contents, Of, Holding, Given, given, perhaps_given, Part, one, perhaps, each, perhaps_one, attributes_of, trees_of, perhaps_trees, each_trees, choice_trees, attributes_onto, trees_onto, one_onto, perhaps_onto, each_onto, choice_onto, given_onto, parts_onto, holding_with, IsThree, IsTwoOrThree, IsNamedOf, IsSecond}
use Rattle.exi_events.specs.Values.{WritesValue}
use Rattle.exi_events.specs.Writer.{Draft, IsPut, IsNeeded, IsOfferedAs}
use Rattle.exi_events.specs.declared.writer.NotPut.{NotPut}
use Rattle.exi_events.specs.declared.writer.NotPut.TheVariants.{NotOffered, Full as NoRoom}
use Rattle.exi_events.specs.Laws.{IsStanding}
use Rattle.exi_events.proofs.Written.{value_once}
use Rattle.exi_events.proofs.Once.{moves_once}
use Rattle.document_laws.proofs.Standings.{standing_kept}
use Rattle.message_parts.specs.Writing.{Target, Put, HasLeft, Writes, Leads, IsTooMuch}

module _ (F : Target) (e : Event) (rest : List Event) (old new : Put) (room : List ℕ) (same : old.schema ≡ F.schema) (now : new.schema ≡ F.schema) (has : old.room ≡ F.room) (keeps : new.room ≡ F.room)
    (is : IsStanding F.schema old.state.standing) (h : HasLeft F (e ∷ rest) old) where
  put_ok : (bits : List Bool) → Moves WritesValue F.schema old.state e bits new.state → new.bits ≡ old.bits ++ bits → new.full ≡ None → Writes F rest new
  put_ok bits moves adds open_still =
      let l = h.leads in
      let once = moves_once WritesValue value_once F.schema old.state e _ _ _ _ is moves l.3 in
      let leads : Leads F.schema new.state rest l.2 F.last = subst (λ (st : State). Leads F.schema st rest l.2 F.last) (sym once.1) l.4 in
      let all : F.bits ≡ new.bits ++ l.2 =
      h.bits_are ∙ ap (λ (b : List Bool). old.bits ++ b) l.5 ∙ sym (append_assoc old.bits l.1 l.2) ∙ ap (λ (b : List Bool). (old.bits ++ b) ++ l.2) (sym once.0) ∙ ap (λ (b : List Bool). b ++ l.2) (sym adds) in
      record { schema_is = now; room_is = keeps; so = inl (record { open_still = open_still; left = l.2; leads = leads; bits_are = all }) }

abbrev pub seen : PlainSchema → Draft → Option Full → Put
seen s d full = record { schema = s; bits = d.bits; state = d.state; room = length d.room; full = full }

module _ (F : Target) (e : Event) (rest : List Event) (s t : PlainSchema) (d g : Draft) (before after : Option Full) (same : t ≡ s) (long : length g.room ≡ length d.room) (is : IsStanding s d.state.standing) where
  lacks : Writes F (e ∷ rest) (seen s d before) → HasLeft F (e ∷ rest) (seen s d before) → (f : Full) → IsNeeded s d (Some e) f → after ≡ Some f → 8 * length d.room < f.bits → Writes F rest (seen t g after)
  lacks w h f needed is_full needs =
      let l = h.leads in
      let mine = needed.1.1 in
      let moves : Moves WritesValue F.schema d.state e needed.1.0 mine.0 = subst (λ (x : PlainSchema). Moves WritesValue x d.state e needed.1.0 mine.0) w.schema_is mine.1 in
      let once = moves_once WritesValue value_once F.schema d.state e _ _ _ _ (subst (λ (x : PlainSchema). IsStanding x d.state.standing) w.schema_is is) moves l.3 in
      let front : length needed.1.0 ≡ length l.1 = ap length once.0 in
      let all : length F.bits ≡ length d.bits + (length l.1 + length l.2) =
      ap length h.bits_are ∙ length-append d.bits h.left ∙ ap (λ (b : List Bool). length d.bits + length b) l.5 ∙ ap (λ (n : ℕ). length d.bits + n) (length-append l.1 l.2) in
      let room : length d.room ≡ F.room = w.room_is in
      let told : 8 * F.room < f.bits = omega (arith, needs, room) in
      let within : f.bits ≤ length F.bits = omega (arith, needed.2, needed.1.2, front, all) in
      record { schema_is = same ∙ w.schema_is; room_is = long ∙ room; so = inr (subst (λ (o : Option Full). IsTooMuch F o) (sym is_full) (told, within)) }

  goes : Writes F (e ∷ rest) (seen s d before) → HasLeft F (e ∷ rest) (seen s d before) → IsPut s d g (Some e) → after ≡ None → Writes F rest (seen t g after)
  goes w h put open_still =
      let moves : Moves WritesValue F.schema d.state e put.0 g.state = subst (λ (x : PlainSchema). Moves WritesValue x d.state e put.0 g.state) w.schema_is put.1 in
      put_ok F e rest (seen s d before) (seen t g after) d.room w.schema_is (same ∙ w.schema_is) w.room_is (long ∙ w.room_is)
      (subst (λ (x : PlainSchema). IsStanding x d.state.standing) w.schema_is is) h put.0 moves put.2.written open_still

  -- where the room is full, nothing changes
  pub stays_full : (f : Full) → before ≡ Some f → after ≡ Some f → Writes F (e ∷ rest) (seen s d before) → Writes F rest (seen t g after)
  stays_full f was is_full w =
      elim w.so [
        | inl h ↦ (let wrong : Some f ≡ None = sym was ∙ h.open_still in absurd cc)
        | inr much ↦ record { schema_is = same ∙ w.schema_is; room_is = long ∙ w.room_is; so = inr (subst (λ (o : Option Full). IsTooMuch F o) (was ∙ sym is_full) much) }
      ]

  -- it is put
  pub put_now : before ≡ None → after ≡ None → IsPut s d g (Some e) → Writes F (e ∷ rest) (seen s d before) → Writes F rest (seen t g after)
  put_now was is_none put w =
      elim w.so [
        | inl h ↦ goes w h put is_none
        | inr much ↦ absurd (subst (λ (o : Option Full). IsTooMuch F o) was much)
      ]

  -- it lacks room
  pub lacks_now : (f : Full) → before ≡ None → after ≡ Some f → IsNeeded s d (Some e) f → 8 * length d.room < f.bits → Writes F (e ∷ rest) (seen s d before) → Writes F rest (seen t g after)
  lacks_now f was is_full needed needs w =
      elim w.so [
        | inl h ↦ lacks w h f needed is_full needs
        | inr much ↦ absurd (subst (λ (o : Option Full). IsTooMuch F o) was much)
      ]

  -- it is offered, as it is the next
  not_other : before ≡ None → (IsOfferedAs s d.state (Some e) → ⊥) → Writes F (e ∷ rest) (seen s d before) → ⊥
  not_other was other w =
      elim w.so [
        | inl h ↦ (let l = h.leads in other (l.1, l.0, subst (λ (x : PlainSchema). Moves WritesValue x d.state e l.1 l.0) (sym w.schema_is) l.3))
        | inr much ↦ (let wrong : ⊥ = subst (λ (o : Option Full). IsTooMuch F o) was much in wrong)
      ]

  -- what an answer says of a writer that was open still
  pub record Answers {T : Type 0} (r : Result T NotPut) : Type 0 where
    pub put : OnOk r (IsPut s d g (Some e))
    pub open_still : OnOk r ((before ≡ None) × (after ≡ None))
    pub other : before ≡ None → r ≡ Err NotOffered → IsOfferedAs s d.state (Some e) → ⊥
    pub needed : before ≡ None → (f : Full) → r ≡ Err (NoRoom f) → IsNeeded s d (Some e) f
    pub bits : before ≡ None → (f : Full) → r ≡ Err (NoRoom f) → (8 * length d.room < f.bits) × (after ≡ Some f)

  by_result : {T : Type 0} (r : Result T NotPut) → before ≡ None → Answers r → Writes F (e ∷ rest) (seen s d before) → Writes F rest (seen t g after)
  by_result {T} (Ok x) was a w = put_now was a.open_still.1 a.put w
  by_result {T} (Err NotOffered) was a w = absurd (not_other was (a.other was refl) w)
  by_result {T} (Err (NoRoom f)) was a w = lacks_now f was (a.bits was f refl).1 (a.needed was f refl) (a.bits was f refl).0 w

  by_full : {T : Type 0} (r : Result T NotPut) (o : Option Full) → before ≡ o → Answers r → ((f : Full) → before ≡ Some f → after ≡ before) → Writes F (e ∷ rest) (seen s d before) → Writes F rest (seen t g after)
  by_full {T} r None is a again w = by_result r is a w
  by_full {T} r (Some f) is a again w = stays_full f is (again f is ∙ is) w

  pub put_any : {T : Type 0} (r : Result T NotPut) → Answers r → ((f : Full) → before ≡ Some f → after ≡ before) → Writes F (e ∷ rest) (seen s d before) → Writes F rest (seen t g after)
  put_any {T} r a again w = by_full r before refl a again w

-- ---- several events that are put at once

module _ (F : Target) (s : PlainSchema) where
  put_one : (e : Event) (rest : List Event) (d g : Draft) → IsStanding s d.state.standing → IsPut s d g (Some e) → Writes F (e ∷ rest) (seen s d None) → Writes F rest (seen s g None)
  put_one e rest d g is put w = put_now F e rest s s d g None None refl put.2.room is refl refl put w

  stands_behind : (e : Event) (d g : Draft) → IsStanding s d.state.standing → IsPut s d g (Some e) → IsStanding s g.state.standing
  stands_behind e d g is put = standing_kept WritesValue s d.state g.state e put.0 is put.1

  put_child : (name : ℕ) (value : Value) (rest : List Event) (d g : Draft) → IsStanding s d.state.standing → PutsChild s d g name value → Writes F (one_onto name (Of value) rest) (seen s d None) → Writes F rest (seen s g None)
  put_child name value rest d g is put w =
      let started = stands_behind (Start name) d put.started is put.start in
      let valued = stands_behind (Content value) put.started put.valued started put.content in
      let one = put_one (Start name) (Content value ∷ EndElement ∷ rest) d put.started is put.start w in
      let two = put_one (Content value) (EndElement ∷ rest) put.started put.valued started put.content one in
      put_one EndElement rest put.valued g valued put.end two

  stands_behind_child : (name : ℕ) (value : Value) (d g : Draft) → IsStanding s d.state.standing → PutsChild s d g name value → IsStanding s g.state.standing
  stands_behind_child name value d g is put =
      let started = stands_behind (Start name) d put.started is put.start in
      let valued = stands_behind (Content value) put.started put.valued started put.content in
      stands_behind EndElement put.valued g valued put.end

  -- the events of an element of three values
  abbrev three_onto : ℕ → ThreeChildren → List Event → List Event
  three_onto name three rest =
      Start name
      ∷ one_onto three.first.name (Of (tree_of three.first.value))
      (one_onto three.second.name (Of (tree_of three.second.value)) (one_onto three.third.name (Of (tree_of three.third.value)) (EndElement ∷ rest)))

  put_three : (name : ℕ) (three : ThreeChildren) (rest : List Event) (d g : Draft) → IsStanding s d.state.standing → PutsThree s d g name three → Writes F (three_onto name three rest) (seen s d None) → Writes F rest (seen s g None)
  put_three name three rest d g is put w =
      let third = one_onto three.third.name (Of (tree_of three.third.value)) (EndElement ∷ rest) in
      let second = one_onto three.second.name (Of (tree_of three.second.value)) third in
      let first = one_onto three.first.name (Of (tree_of three.first.value)) second in
      let is0 = stands_behind (Start name) d put.started is put.start in
      let is1 = stands_behind_child three.first.name (tree_of three.first.value) put.started put.one is0 put.first_put in
      let is2 = stands_behind_child three.second.name (tree_of three.second.value) put.one put.two is1 put.second_put in
      let is3 = stands_behind_child three.third.name (tree_of three.third.value) put.two put.three is2 put.third_put in
      let w0 = put_one (Start name) first d put.started is put.start w in
      let w1 = put_child three.first.name (tree_of three.first.value) second put.started put.one is0 put.first_put w0 in
      let w2 = put_child three.second.name (tree_of three.second.value) third put.one put.two is1 put.second_put w1 in
      let w3 = put_child three.third.name (tree_of three.third.value) (EndElement ∷ rest) put.two put.three is2 put.third_put w2 in
      put_one EndElement rest put.three g is3 put.end w3

  -- the events of an element of which the second value may be absent, behind the first
  abbrev rest_onto : Option NamedValue → NamedValue → List Event → List Event
  rest_onto None third rest = one_onto third.name (Of (tree_of third.value)) (EndElement ∷ rest)
  rest_onto (Some second) third rest = one_onto second.name (Of (tree_of second.value)) (one_onto third.name (Of (tree_of third.value)) (EndElement ∷ rest))

  put_rest : (second : Option NamedValue) (third : NamedValue) (rest : List Event) (d g : Draft) → IsStanding s d.state.standing → PutsRest s d g second third → Writes F (rest_onto second third rest) (seen s d None) → Writes F rest (seen s g None)
  put_rest None third rest d g is put w =
      let is1 = stands_behind_child third.name (tree_of third.value) d put.0 is put.1 in
      put_one EndElement rest put.0 g is1 put.2 (put_child third.name (tree_of third.value) (EndElement ∷ rest) d put.0 is put.1 w)
  put_rest (Some second) third rest d g is put w =
      let last = one_onto third.name (Of (tree_of third.value)) (EndElement ∷ rest) in
      let is1 = stands_behind_child second.name (tree_of second.value) d put.0 is put.2 in
      let is2 = stands_behind_child third.name (tree_of third.value) put.0 put.1 is1 put.3 in
      let w1 = put_child second.name (tree_of second.value) last d put.0 is put.2 w in
      let w2 = put_child third.name (tree_of third.value) (EndElement ∷ rest) put.0 put.1 is1 put.3 w1 in
      put_one EndElement rest put.1 g is2 put.4 w2

  abbrev optional_onto : ℕ → OptionalChildren → List Event → List Event
  optional_onto name values rest = Start name ∷ one_onto values.first.name (Of (tree_of values.first.value)) (rest_onto values.second values.third rest)

  put_optional : (name : ℕ) (values : OptionalChildren) (rest : List Event) (d g : Draft) → IsStanding s d.state.standing → PutsOptional s d g name values → Writes F (optional_onto name values rest) (seen s d None) → Writes F rest (seen s g None)
  put_optional name values rest d g is put w =
      let behind = rest_onto values.second values.third rest in
      let is0 = stands_behind (Start name) d put.started is put.start in
      let is1 = stands_behind_child values.first.name (tree_of values.first.value) put.started put.one is0 put.first_put in
      let w0 = put_one (Start name) (one_onto values.first.name (Of (tree_of values.first.value)) behind) d put.started is put.start w in
      let w1 = put_child values.first.name (tree_of values.first.value) behind put.started put.one is0 put.first_put w0 in
      put_rest values.second values.third rest put.one g is1 put.rest_put w1

-- a writer was open and is
all_put : (F : Target) (events rest : List Event) (s t : PlainSchema) (d g : Draft) (before after : Option Full) → t ≡ s → before ≡ None → after ≡ None →
    (Writes F events (seen s d None) → Writes F rest (seen s g None)) → Writes F events (seen s d before) → Writes F rest (seen t g after)
all_put F events rest s t d g before after same was is puts w =
    subst (λ (x : PlainSchema). Writes F rest (seen x g after)) (sym same)
    (subst (λ (o : Option Full). Writes F rest (seen s g o)) (sym is)
    (puts (subst (λ (o : Option Full). Writes F events (seen s d o)) was w)))

module _ (F : Target) (rest : List Event) (s t : PlainSchema) (d g : Draft) (before after : Option Full) (same : t ≡ s) (is : IsStanding s d.state.standing) (was : before ≡ None) (now : after ≡ None) where
  pub one_at_once : (e : Event) → IsPut s d g (Some e) → Writes F (e ∷ rest) (seen s d before) → Writes F rest (seen t g after)
  one_at_once e put w = all_put F (e ∷ rest) rest s t d g before after same was now (put_one F s e rest d g is put) w

  pub child_at_once : (name : ℕ) (value : Value) → PutsChild s d g name value → Writes F (one_onto name (Of value) rest) (seen s d before) → Writes F rest (seen t g after)
  child_at_once name value put w = all_put F (one_onto name (Of value) rest) rest s t d g before after same was now (put_child F s name value rest d g is put) w

  pub three_at_once : (name : ℕ) (three : ThreeChildren) (attributes : List Given) (parts : List Part) → IsThree three attributes parts → PutsThree s d g name three →
      Writes F (one_onto name (holding_with attributes parts) rest) (seen s d before) → Writes F rest (seen t g after)
  three_at_once name three attributes parts are put w =
      let P : List Given → List Part → Type 0 = λ given_ones ps. Writes F (one_onto name (holding_with given_ones ps) rest) (seen s d before) in
      all_put F (three_onto F s name three rest) rest s t d g before after same was now (put_three F s name three rest d g is put)
      (subst (λ (ps : List Part). P [] ps) are.parts_are (subst (λ (given_ones : List Given). P given_ones parts) are.none_given w))

  -- what lies ahead of an element of which the second value may be absent
  abbrev Ahead : List Given → List Part → ℕ → Type 0
  Ahead gs ps name = Writes F (one_onto name (holding_with gs ps) rest) (seen s d before)

  ahead_rest : (name : ℕ) (first third : NamedValue) (second : Option NamedValue) (second_name : ℕ) (inside : Option Contents) → IsSecond second second_name inside →
      Ahead [] (one first.name (Of (tree_of first.value)) ∷ perhaps second_name inside ∷ one third.name (Of (tree_of third.value)) ∷ []) name →
      Writes F (optional_onto F s name (record { first = first; second = second; third = third }) rest) (seen s d before)
  ahead_rest name first third None second_name inside are w =
      subst (λ (o : Option Contents). Ahead [] (one first.name (Of (tree_of first.value)) ∷ perhaps second_name o ∷ one third.name (Of (tree_of third.value)) ∷ []) name) are w
  ahead_rest name first third (Some it) second_name inside are w =
      let there = subst (λ (o : Option Contents). Ahead [] (one first.name (Of (tree_of first.value)) ∷ perhaps second_name o ∷ one third.name (Of (tree_of third.value)) ∷ []) name) are.1 w in
      subst (λ (n : ℕ). Ahead [] (one first.name (Of (tree_of first.value)) ∷ perhaps n (Some (Of (tree_of it.value))) ∷ one third.name (Of (tree_of third.value)) ∷ []) name) (sym are.0) there

  pub optional_at_once : (name : ℕ) (values : OptionalChildren) (attributes : List Given) (parts : List Part) → IsTwoOrThree values attributes parts → PutsOptional s d g name values →
      Writes F (one_onto name (holding_with attributes parts) rest) (seen s d before) → Writes F rest (seen t g after)
  optional_at_once name values attributes parts are put w =
      let all = subst (λ (ps : List Part). Ahead [] ps name) are.parts_are (subst (λ (gs : List Given). Ahead gs parts name) are.none_given w) in
      all_put F (optional_onto F s name values rest) rest s t d g before after same was now (put_optional F s name values rest d g is put)
      (ahead_rest name values.first values.third values.second are.second_name are.second_inside are.second_is all)

pub optional_put_by : (F : Target) (rest : List Event) (s t : PlainSchema) (d g : Draft) (before after : Option Full) → t ≡ s → IsStanding s d.state.standing → (name : ℕ) (values : OptionalChildren) (attributes : List Given) (parts : List Part) → IsTwoOrThree values attributes parts →
    {T : Type 0} (r : Option T) → OnSome r ((before ≡ None) × (after ≡ None)) → OnSome r (PutsOptional s d g name values) →
    Writes F (one_onto name (holding_with attributes parts) rest) (seen s d before) → OnSome r (Writes F rest (seen t g after))
optional_put_by F rest s t d g before after same is name values attributes parts are {T} None open_still put w = tt
optional_put_by F rest s t d g before after same is name values attributes parts are {T} (Some x) open_still put w =
    optional_at_once F rest s t d g before after same is open_still.0 open_still.1 name values attributes parts are put w

pub three_put_by : (F : Target) (rest : List Event) (s t : PlainSchema) (d g : Draft) (before after : Option Full) → t ≡ s → IsStanding s d.state.standing → (name : ℕ) (three : ThreeChildren) (attributes : List Given) (parts : List Part) → IsThree three attributes parts →
    {T : Type 0} (r : Option T) → OnSome r ((before ≡ None) × (after ≡ None)) → OnSome r (PutsThree s d g name three) →
    Writes F (one_onto name (holding_with attributes parts) rest) (seen s d before) → OnSome r (Writes F rest (seen t g after))
three_put_by F rest s t d g before after same is name three attributes parts are {T} None open_still put w = tt
three_put_by F rest s t d g before after same is name three attributes parts are {T} (Some x) open_still put w =
    three_at_once F rest s t d g before after same is open_still.0 open_still.1 name three attributes parts are put w

part_is : (it : NamedValue) (name : ℕ) (value : Value) → IsNamedOf it name value → one name (Of value) ≡ one it.name (Of (tree_of it.value))
part_is it name value is = sym (ap (λ (n : ℕ). one n (Of (tree_of it.value))) is.name_is ∙ ap (λ (v : Value). one name (Of v)) is.value_is)

pub three_named : (first second third : NamedValue) (first_name second_name third_name : ℕ) (a b c : Value) → IsNamedOf first first_name a → IsNamedOf second second_name b → IsNamedOf third third_name c →
    IsThree (record { first = first; second = second; third = third }) [] (one first_name (Of a) ∷ one second_name (Of b) ∷ one third_name (Of c) ∷ [])
three_named first second third first_name second_name third_name a b c is1 is2 is3 =
    record {
      none_given = refl;
      parts_are =
          ap (λ (p : Part). p ∷ one second_name (Of b) ∷ one third_name (Of c) ∷ []) (part_is first first_name a is1)
          ∙ ap (λ (p : Part). one first.name (Of (tree_of first.value)) ∷ p ∷ one third_name (Of c) ∷ []) (part_is second second_name b is2)
          ∙ ap (λ (p : Part). one first.name (Of (tree_of first.value)) ∷ one second.name (Of (tree_of second.value)) ∷ p ∷ []) (part_is third third_name c is3);
    }

pub optional_named : (first third : NamedValue) (second : Option NamedValue) (first_name second_name third_name : ℕ) (a c : Value) (inside : Option Contents) → IsNamedOf first first_name a → IsSecond second second_name inside → IsNamedOf third third_name c →
    IsTwoOrThree (record { first = first; second = second; third = third }) [] (one first_name (Of a) ∷ perhaps second_name inside ∷ one third_name (Of c) ∷ [])
optional_named first third second first_name second_name third_name a c inside is1 is2 is3 =
    record {
      none_given = refl;
      second_name = second_name;
      second_inside = inside;
      second_is = is2;
      parts_are =
          ap (λ (p : Part). p ∷ perhaps second_name inside ∷ one third_name (Of c) ∷ []) (part_is first first_name a is1)
          ∙ ap (λ (p : Part). one first.name (Of (tree_of first.value)) ∷ perhaps second_name inside ∷ p ∷ []) (part_is third third_name c is3);
    }

-- ---- trees and the parts that they are made of lie alike ahead

perhaps_onto_is : (name : ℕ) (o : Option Contents) (more : Trees) (rest : List Event) → trees_onto (perhaps_trees name o more) rest ≡ perhaps_onto name o (trees_onto more rest)
perhaps_onto_is name None more rest = refl
perhaps_onto_is name (Some (Of v)) more rest = refl
perhaps_onto_is name (Some (Holding attributes children)) more rest = refl

each_onto_is : (name : ℕ) (insides : List Contents) (more : Trees) (rest : List Event) → trees_onto (each_trees name insides more) rest ≡ each_onto name insides (trees_onto more rest)
each_onto_is name [] more rest = refl
each_onto_is name (Of v ∷ insides) more rest = ap (λ es. one_onto name (Of v) es) (each_onto_is name insides more rest)
each_onto_is name (Holding attributes children ∷ insides) more rest = ap (λ es. one_onto name (Holding attributes children) es) (each_onto_is name insides more rest)

choice_onto_is : (o : Option (ℕ × Contents)) (more : Trees) (rest : List Event) → trees_onto (choice_trees o more) rest ≡ choice_onto o (trees_onto more rest)
choice_onto_is None more rest = refl
choice_onto_is (Some (name, Of v)) more rest = refl
choice_onto_is (Some (name, Holding attributes children)) more rest = refl

pub parts_onto_is : (parts : List Part) (rest : List Event) → trees_onto (trees_of parts) rest ≡ parts_onto parts rest
parts_onto_is [] rest = refl
parts_onto_is (one name (Of v) ∷ parts) rest = ap (λ es. one_onto name (Of v) es) (parts_onto_is parts rest)
parts_onto_is (one name (Holding attributes children) ∷ parts) rest = ap (λ es. one_onto name (Holding attributes children) es) (parts_onto_is parts rest)
parts_onto_is (perhaps name o ∷ parts) rest = perhaps_onto_is name o (trees_of parts) rest ∙ ap (λ es. perhaps_onto name o es) (parts_onto_is parts rest)
parts_onto_is (each name insides ∷ parts) rest = each_onto_is name insides (trees_of parts) rest ∙ ap (λ es. each_onto name insides es) (parts_onto_is parts rest)
parts_onto_is (perhaps_one o ∷ parts) rest = choice_onto_is o (trees_of parts) rest ∙ ap (λ es. choice_onto o es) (parts_onto_is parts rest)

pub given_onto_is : (gs : List Given) (rest : List Event) → attributes_onto (attributes_of gs) rest ≡ given_onto gs rest
given_onto_is [] rest = refl
given_onto_is (given name value ∷ gs) rest = ap (λ es. Attribute name value ∷ es) (given_onto_is gs rest)
given_onto_is (perhaps_given name None ∷ gs) rest = given_onto_is gs rest
given_onto_is (perhaps_given name (Some value) ∷ gs) rest = ap (λ es. Attribute name value ∷ es) (given_onto_is gs rest)

-- ---- an item of a list

pub drop_item : {X : Type 0} (xs : List X) (i : ℕ) (x : X) → i < length xs → x ≡ slice_index_or xs i x → drop i xs ≡ x ∷ drop (suc i) xs
drop_item {X} [] i x less is = absurd (omega (arith, less))
drop_item {X} (y ∷ ys) zero x less is = ap (λ (z : X). z ∷ ys) (sym is)
drop_item {X} (y ∷ ys) (suc i) x less is = drop_item ys i x (omega (arith, less)) is

pub drop_next : {X : Type 0} (xs : List X) (i : ℕ) (x : X) → i < length xs → x ≡ slice_index_or xs i x → drop i xs ≡ x ∷ drop (i + 1) xs
drop_next {X} xs i x less is = drop_item xs i x less is ∙ ap (λ (j : ℕ). x ∷ drop j xs) (sym (add-one i))

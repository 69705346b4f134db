-- The root of a document, and the end behind it.
use Rattle.std.proofs.Common.{Result, Ok, Err, IfOk, ◌≡◌, ℕ, List, [], ◌∷◌, Option, Some, None, Bool, true, refl, sym, ap, subst, ◌∙◌, zero, suc}
use Rattle.std.specs.Prelude.{slice_get}
use Rattle.exi_schema.specs.Schemas.{PlainSchema}
use Rattle.exi_schema.specs.declared.tables.RootOf.{RootOf}
use Rattle.exi_events.specs.Documents.{first, IsDocument}
use Rattle.exi_events.specs.Grammar.{Standing, Before, AtRoot, Inside, Behind, State, opened, MovesFrom}
use Rattle.exi_events.specs.Trees.{Event, Document, Start, Attribute, Content, EndElement}
use Rattle.exi_events.specs.Values.{SpellsValue, Entries}
use Rattle.exi_events.specs.Reader.{IsTold}
use Rattle.exi_events.specs.Event.{Event as ReadEvent}
use Rattle.exi_events.specs.Event.TheVariants as read
use Rattle.exi_events.specs.Meaning.{event_of}
use Rattle.exi_schema.specs.Plain.{PlainKind}
use Rattle.message_parts.specs.Contents.{Inside as Contents, started, root_of, told_inside}
use Rattle.message_parts.specs.Particles.{kind_among, is_kind, are_among}
use Rattle.message_parts.specs.Reading.{Seen, ToldUpTo, Enters, IsChosen, Begins, IsNumbered, IsAtRoot, root_frame}
use Rattle.message_parts.proofs.Distinct.{and_first, and_second, number_is}
use Rattle.message_parts.proofs.Next.{TellsMore, Follows}
use Rattle.message_parts.proofs.Told.{root_is}

-- ---- the root starts

module _ (s : PlainSchema) (bits : List Bool) (old new : Seen) (kept : new.schema ≡ old.schema) (same_bits : new.cursor.bits ≡ old.cursor.bits) (open_still : new.refused ≡ None) where
  numbered_by : (now : Event) (entries : Entries) (front : List Bool) → Begins s bits old → ToldUpTo s (now ∷ []) new.state new.cursor → MovesFrom SpellsValue s Before entries now front new.state → IsNumbered s bits new
  numbered_by (Document number) entries front begins told moves =
      record {
        schema_is = kept ∙ begins.schema_is;
        bits_are = same_bits ∙ begins.bits_are;
        none_refused = open_still;
        number = number;
        name = moves.name;
        kind = moves.kind;
        named = moves.named;
        standing = ap (λ (st : State). st.standing) moves.leads;
        told = told;
      }
  numbered_by (Start name) entries front begins told moves = absurd moves
  numbered_by (Attribute name value) entries front begins told moves = absurd moves
  numbered_by (Content value) entries front begins told moves = absurd moves
  numbered_by EndElement entries front begins told moves = absurd moves

  pub numbered : Begins s bits old → (o : Option Event) → Follows old new o → TellsMore old new o → IsNumbered s bits new
  numbered begins None next tells = let wrong : Before ≡ Behind = sym begins.standing ∙ next.0 in absurd cc
  numbered begins (Some now) next tells =
      let P : PlainSchema → Standing → Type 0 = λ s x. MovesFrom SpellsValue s x old.state.entries now next.0 new.state in
      let moves : P s Before = subst (λ (x : Standing). P s x) begins.standing (subst (λ (x : PlainSchema). P x old.state.standing) begins.schema_is next.1) in
      let has : ToldUpTo old.schema [] old.state old.cursor = subst (λ (x : PlainSchema). ToldUpTo x [] old.state old.cursor) (sym begins.schema_is) begins.told in
      numbered_by now old.state.entries next.0 begins (subst (λ (x : PlainSchema). ToldUpTo x (now ∷ []) new.state new.cursor) (kept ∙ begins.schema_is) (tells [] has now refl)) moves

  rooted_by : (n : IsNumbered s bits old) (e : ReadEvent) (now : Event) (entries : Entries) (front : List Bool) → event_of e ≡ Some now → new.child ≡ started e → ToldUpTo s (now ∷ Document n.number ∷ []) new.state new.cursor →
      MovesFrom SpellsValue s (AtRoot n.name n.kind) entries now front new.state → IsAtRoot s bits new
  rooted_by n e (Document other) entries front is child told moves = absurd moves
  rooted_by n (read.Start m) (Start name) entries front is child told moves =
      let same : Some (Start m) ≡ Some (Start name) = is in
      let named : m ≡ name = cc in
      let name_is : name ≡ n.name = moves.0 in
      record {
        number = n.number;
        name = n.name;
        kind = n.kind;
        named = n.named;
        child = child ∙ ap (λ (x : ℕ). Some x) (named ∙ name_is);
        enters = record {
          goes = record {
            schema_is = kept ∙ n.schema_is;
            kinds_are = refl;
            bits_are = same_bits ∙ n.bits_are;
            none_refused = open_still;
            told = subst (λ (x : ℕ). ToldUpTo s (Start x ∷ Document n.number ∷ []) new.state new.cursor) name_is told;
          };
          standing = ap (λ (st : State). st.standing) moves.2 ∙ ap (λ (x : ℕ). Inside (opened x (first n.kind)) []) name_is;
        };
      }
  rooted_by n e (Start name) entries front is child told moves = absurd cc
  rooted_by n e (Attribute name value) entries front is child told moves = absurd moves
  rooted_by n e (Content value) entries front is child told moves = absurd moves
  rooted_by n e EndElement entries front is child told moves = absurd moves

  pub rooted : IsNumbered s bits old → (e : ReadEvent) (o : Option Event) → event_of e ≡ o → new.child ≡ started e →
      Follows old new o → TellsMore old new o → IsAtRoot s bits new
  rooted n e None is child next tells = let wrong : AtRoot n.name n.kind ≡ Behind = sym n.standing ∙ next.0 in absurd cc
  rooted n e (Some now) is child next tells =
      let P : PlainSchema → Standing → Type 0 = λ s x. MovesFrom SpellsValue s x old.state.entries now next.0 new.state in
      let moves : P s (AtRoot n.name n.kind) = subst (λ (x : Standing). P s x) n.standing (subst (λ (x : PlainSchema). P x old.state.standing) n.schema_is next.1) in
      let has : ToldUpTo old.schema (Document n.number ∷ []) old.state old.cursor = subst (λ (x : PlainSchema). ToldUpTo x (Document n.number ∷ []) old.state old.cursor) (sym n.schema_is) n.told in
      rooted_by n e now old.state.entries next.0 is child (subst (λ (x : PlainSchema). ToldUpTo x (now ∷ Document n.number ∷ []) new.state new.cursor) (kept ∙ n.schema_is) (tells (Document n.number ∷ []) has now refl)) moves

-- ---- behind the root nothing is told

behind_none : (s : PlainSchema) (entries : Entries) (now : Event) (bits : List Bool) (new : State) → MovesFrom SpellsValue s Behind entries now bits new → ⊥
behind_none s entries (Document number) bits new moves = moves
behind_none s entries (Start name) bits new moves = moves
behind_none s entries (Attribute name value) bits new moves = moves
behind_none s entries (Content value) bits new moves = moves
behind_none s entries EndElement bits new moves = moves

pub ends : (old new : Seen) (o : Option Event) → old.state.standing ≡ Behind → Follows old new o → o ≡ None
ends old new None is next = refl
ends old new (Some now) is next =
    absurd (behind_none old.schema old.state.entries now next.0 new.state (subst (λ (x : Standing). MovesFrom SpellsValue old.schema x old.state.entries now next.0 new.state) is next.1))

-- ---- a document

by_kind : (k : ℕ) (o : Option ℕ) → is_kind k o ≡ true → o ≡ Some k
by_kind k None is = absurd cc
by_kind k (Some x) is = ap (λ (n : ℕ). Some n) (number_is x k is)

pub among_roots : (members : List (ℕ × ℕ)) (roots : List RootOf) (i : ℕ) (root : RootOf) → are_among members roots ≡ true → slice_get roots i ≡ Some root → kind_among members root.name ≡ Some root.kind
among_roots members [] i root are is = absurd cc
among_roots members (r ∷ roots) zero root are is =
    let same : Some r ≡ Some root = is in
    let r_is : r ≡ root = cc in
    subst (λ (x : RootOf). kind_among members x.name ≡ Some x.kind) r_is (by_kind r.kind (kind_among members r.name) (and_first (is_kind r.kind (kind_among members r.name)) _ are))
among_roots members (r ∷ roots) (suc i) root are is = among_roots members roots i root (and_second (is_kind r.kind (kind_among members r.name)) _ are) is

pub root_chosen : (ks : List PlainKind) (members : List (ℕ × ℕ)) (s : PlainSchema) (bits : List Bool) (d : Seen) → s.kinds ≡ ks → are_among members s.roots ≡ true → (r : IsAtRoot s bits d) →
    IsChosen ks (root_frame s bits r.name) members (Start r.name ∷ Document r.number ∷ []) d
root_chosen ks members s bits d are among r =
    record {
      kind = r.kind;
      here = r.child;
      among = among_roots members s.roots r.named.0 _ among r.named.1;
      enters = subst (λ (k : List PlainKind). Enters k (root_frame s bits r.name) r.kind (Start r.name ∷ Document r.number ∷ []) d) are r.enters;
    }

pub is_document : (s : PlainSchema) (name number : ℕ) (inside : Contents) (payload : List ℕ) → IsTold s (EndElement ∷ told_inside inside (Start name ∷ Document number ∷ [])) payload → IsDocument s (root_of name inside) payload
is_document s name number inside payload told =
    subst (λ t. IsDocument s t payload) (root_is name number told.0 inside told.1 told.2) told.3

pub is_read : {V E : Type 0} (r : Result V E) (s : PlainSchema) (name number : ℕ) (inside : Contents) (payload : List ℕ) → IfOk r (λ _. IsTold s (EndElement ∷ told_inside inside (Start name ∷ Document number ∷ [])) payload) →
    IfOk r (λ _. IsDocument s (root_of name inside) payload)
is_read {V} {E} (Ok v) s name number inside payload told = is_document s name number inside payload told
is_read {V} {E} (Err e) s name number inside payload told = tt

-- A text that is scanned to its end.
use Rattle.std.proofs.Common.{◌≡◌, ℕ, ◌+◌, ◌*◌, ◌≤◌, Bool, true, false, List, ◌∷◌, ◌++◌, length, replicate, reverse, Option, Some, None, IfSome, IfNone, sym, ap, subst, ◌∙◌, arith, length-append, inl, inr}
use Rattle.std.specs.Str.{chars}
use Rattle.std.proofs.lemmas.List.{length-replicate}
use Rattle.exi_spec.specs.Bits.{bits_of}
use Rattle.exi_spec.proofs.BitLaws.{length-bits_of}
use Rattle.exi_schema.specs.Schemas.{PlainSchema}
use Rattle.exi_documents.specs.Documents.{IsEncoding}
use Rattle.exi_documents.specs.Grammar.{Behind}
use Rattle.exi_documents.specs.Trees.{Tree, Event, document_events}
use Rattle.exi_documents.specs.Values.{WritesValue}
use Rattle.exi_events.specs.Writer.{Draft, HasPut, IsWritten}
use Rattle.value_text.specs.declared.cursor.TextCursor.{TextCursor}
use Rattle.dialect_text.specs.Dialect.{Standing, IsDialectText, IsFault}
use Rattle.dialect_text.specs.Scanning.{event_of, HasSaid, IsReady, IsFaultOf}
use Rattle.value_text.specs.declared.fault.ScanFault.{ScanFault}
use Rattle.value_text.specs.declared.fault.ScanFault.TheVariants.{Place, Memory}
use Rattle.dialect_text.specs.declared.said.Said.{Said}
use Rattle.dialect_text.proofs.Once.{one_list}
use Rattle.tree_text.specs.Consistent.{are_consistent}
use Rattle.tree_text.specs.Scans.{IsEncodedText, HasNoEncoding, IsScanFault, IsFaultBehind, IsStuck}
use Rattle.tree_text.specs.TreeText.{IsTreeText}
use Rattle.tree_text.proofs.Sayings.{encoded_said, said_ends, said_tree}

module _ (s : PlainSchema) (fits : are_consistent s.kinds ≡ true) where
  -- events that are put, and that the whole text says
  pub tree_put : (events : List Event) (draft : Draft) (text payload : List ℕ) → HasPut s events draft → IsDialectText s events text → IsWritten s events payload →
      (tree : Tree) × IsTreeText s tree text × IsEncoding s tree payload
  tree_put events draft text payload h is w =
      (w.1, said_tree WritesValue s fits w.0 w.1 draft.bits draft.state text (subst (λ (l : List Event). HasPut s l draft) w.2 h) (subst (λ (l : List Event). IsDialectText s l text) w.2 is), w.3)

  few_bits : (payload : List ℕ) (bits : List Bool) (pad : ℕ) → bits_of payload ≡ bits ++ replicate pad false → length payload ≤ 65536 → length bits ≤ 8 * 65536
  few_bits payload bits pad are small =
      let all : 8 * length payload ≡ length bits + pad =
      sym (length-bits_of payload) ∙ ap length are ∙ length-append bits (replicate pad false) ∙ ap (λ (n : ℕ). length bits + n) (length-replicate pad false) in
      omega (arith, all, small)

  -- some of the events that the text says begin no document that has room
  pub stuck_has_none : (later events : List Event) (text : List ℕ) → IsStuck s events → IsDialectText s (later ++ events) text → HasNoEncoding s text
  stuck_has_none later events text stuck is tree payload spelled e small =
      let said = encoded_said s fits e.number tree text e.bits spelled e.spelled in
      stuck later e.number tree e.bits (one_list s (later ++ events) (reverse (document_events e.number tree)) text is said) e.spelled (few_bits payload e.bits e.pad e.bits_are small)

-- ---- the scanner's schema and text are those at the start

pub still_ready : (s t : PlainSchema) (text other : List ℕ) (standing : Standing) (cursor : TextCursor) (fault : Option ℕ) → s ≡ t → text ≡ other → IsReady s text standing cursor fault → IsReady t other standing cursor fault
still_ready s t text other standing cursor fault same one is =
    subst (λ (x : PlainSchema). IsReady x other standing cursor fault) same (subst (λ (l : List ℕ). IsReady s l standing cursor fault) one is)

pub said_in : (s t : PlainSchema) (text other : List ℕ) (events : List Event) (standing : Standing) (cursor : TextCursor) → s ≡ t → text ≡ other → HasSaid s text events standing cursor → HasSaid t other events standing cursor
said_in s t text other events standing cursor same one is =
    subst (λ (x : PlainSchema). HasSaid x other events standing cursor) same (subst (λ (l : List ℕ). HasSaid s l events standing cursor) one is)

-- an event more
pub said_on : (s t : PlainSchema) (text other : List ℕ) (o : Option Said) (said : Said) (old new : Standing) (before after : TextCursor) → s ≡ t → text ≡ other → o ≡ Some said →
    ((events : List Event) → HasSaid s text events old before → IfSome o (λ x. HasSaid s text (event_of x ∷ events) new after)) →
    (events : List Event) → HasSaid t other events old before → HasSaid t other (event_of said ∷ events) new after
said_on s t text other o said old new before after same one is next events h =
    let here = said_in t s other text events old before (sym same) (sym one) h in
    said_in s t text other (event_of said ∷ events) new after same one (subst (λ (x : Option Said). IfSome x (λ y. HasSaid s text (event_of y ∷ events) new after)) is (next events here))

-- and none
pub said_all : (s t : PlainSchema) (text other : List ℕ) (o : Option Said) (old : Standing) (before : TextCursor) → s ≡ t → text ≡ other → o ≡ None →
    ((events : List Event) → HasSaid s text events old before → IfNone o (IsDialectText s events text)) →
    (events : List Event) → HasSaid t other events old before → IsDialectText t events other
said_all s t text other o old before same one is next events h =
    let here = said_in t s other text events old before (sym same) (sym one) h in
    subst (λ (x : PlainSchema). IsDialectText x events other) same (subst (λ (l : List ℕ). IsDialectText s events l) one
    (subst (λ (x : Option Said). IfNone x (IsDialectText s events text)) is (next events here)))

-- ---- the writer's places are the schema

pub stuck_in : (s t : PlainSchema) (events : List Event) → s ≡ t → IsStuck s events → IsStuck t events
stuck_in s t events same is = subst (λ (x : PlainSchema). IsStuck x events) same is

pub put_in : (s t : PlainSchema) (events : List Event) (draft : Draft) → s ≡ t → HasPut s events draft → HasPut t events draft
put_in s t events draft same h = subst (λ (x : PlainSchema). HasPut x events draft) same h

-- at the end of the text
all_put : (s t : PlainSchema) (events : List Event) (draft : Draft) (text payload : List ℕ) → are_consistent t.kinds ≡ true → s ≡ t → HasPut s events draft → IsDialectText t events text →
    (HasPut s events draft → draft.state.standing ≡ Behind → IsWritten s events payload) → (tree : Tree) × IsTreeText t tree text × IsEncoding t tree payload
all_put s t events draft text payload fits same h is ends =
    let put = put_in s t events draft same h in
    let behind = said_ends WritesValue t fits events draft.bits draft.state text put is in
    tree_put t fits events draft text payload put is (subst (λ (x : PlainSchema). IsWritten x events payload) same (ends h behind))

pub piece_put : (s t : PlainSchema) (events : List Event) (draft : Draft) (text payload piece : List ℕ) → are_consistent t.kinds ≡ true → s ≡ t → length payload ≤ 65536 → HasPut s events draft → IsDialectText t events text →
    (HasPut s events draft → draft.state.standing ≡ Behind → IsWritten s events payload) → piece ≡ payload → IsEncodedText t text piece
piece_put s t events draft text payload piece fits same few h is ends copied =
    subst (λ (l : List ℕ). IsEncodedText t text l) (sym copied) (few, all_put s t events draft text payload fits same h is ends)

-- ---- faults

pub rest_ok : (s : PlainSchema) (text other : List ℕ) (events : List Event) (count : ℕ) → text ≡ other → ((later : List Event) × IsDialectText s (later ++ events) text) → count ≡ length (chars other) → IsFaultBehind s text events (Place count)
rest_ok s text other events count same is counted = inr (is.0, is.1, counted ∙ ap (λ (l : List ℕ). length (chars l)) (sym same))

pub rest_fault : (s : PlainSchema) (text : List ℕ) (events : List Event) (fault : ScanFault) → IsFaultOf s text fault → IsFaultBehind s text events fault
rest_fault s text events (Place place) is = inl is
rest_fault s text events Memory is = tt

pub scan_fault : (s : PlainSchema) (text other : List ℕ) (fault : ScanFault) → text ≡ other → IsFaultOf s text fault → IsScanFault s other fault
scan_fault s text other (Place place) same is = inl (subst (λ (l : List ℕ). IsFault s l place) same is)
scan_fault s text other Memory same is = tt

-- a text of the dialect of which no document can be put
pub stuck_fault : (s t : PlainSchema) (text other : List ℕ) (events : List Event) (fault : ScanFault) → are_consistent t.kinds ≡ true → s ≡ t → text ≡ other →
    IsStuck t events → IsFaultBehind s text events fault → IsScanFault t other fault
stuck_fault s t text other events (Place place) fits same one stuck is =
    let there : IsFaultBehind t other events (Place place) =
    subst (λ (x : PlainSchema). IsFaultBehind x other events (Place place)) same (subst (λ (l : List ℕ). IsFaultBehind s l events (Place place)) one is) in
    elim there [
      | inl fault ↦ inl fault
      | inr said ↦ inr ((said.0 ++ events, said.1), stuck_has_none t fits said.0 events other stuck said.1, said.2)
    ]
stuck_fault s t text other events Memory fits same one stuck is = tt

pub encoded_in : (s : PlainSchema) (text other payload : List ℕ) → text ≡ other → IsEncodedText s text payload → IsEncodedText s other payload
encoded_in s text other payload same is = subst (λ (l : List ℕ). IsEncodedText s l payload) same is

pub some_of : {X : Type 0} (P : X → Type 0) (o : Option X) (x : X) → o ≡ Some x → IfSome o P → P x
some_of P o x is h = subst (λ y. IfSome y P) is h

pub none_of : {X : Type 0} (P : Type 0) (o : Option X) → o ≡ None → IfNone o P → P
none_of {X} P o is h = subst (λ (y : Option X). IfNone y P) is h

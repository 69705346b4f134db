-- Events with which no document begins that has room: one is not offered, is too long, or has no room.
use Rattle.std.proofs.Common.{rules, ◌≡◌, ℕ, ◌+◌, ◌*◌, ◌<◌, IsTrue, IsFalse, not, Bool, true, false, List, ◌∷◌, ◌++◌, length, reverse, Option, Some, Result, Ok, Err, IsErr, refl, sym, ap, subst, ◌∙◌, arith, length-append}
use Rattle.exi_spec.specs.Bits.{bits_of}
use Rattle.exi_spec.specs.Items.{shortest_unsigned}
use Rattle.exi_spec.proofs.BitLaws.{length-bits_of}
use Rattle.exi_schema.specs.Schemas.{PlainSchema}
use Rattle.exi_schema.specs.declared.tables.Datatype.{Datatype}
use Rattle.exi_schema.specs.declared.tables.Datatype.TheVariants.{Binary}
use Rattle.exi_documents.specs.Documents.{SpellsDocument}
use Rattle.exi_documents.specs.Grammar.{Standing, Inside, Behind, State, stands, Moves, Reaches}
use Rattle.exi_documents.specs.Trees.{Value, Truth, Ordinal, Number, Bytes, Text, Tree, Event, Document, Start, Attribute, Content, EndElement, document_events}
use Rattle.exi_documents.specs.Values.{Entries, WritesValue}
use Rattle.exi_bits.specs.declared.pen.Full.{Full}
use Rattle.exi_events.specs.declared.writer.NotPut.{NotPut}
use Rattle.exi_events.specs.declared.writer.NotPut.TheVariants.{NotOffered, Full as NoRoom}
use Rattle.exi_events.specs.Writer.{Draft, HasPut, IsOfferedAs, HasNoRoom}
use Rattle.document_laws.proofs.Runs.{document_tells}
use Rattle.document_laws.proofs.Written.{value_once}
use Rattle.tree_text.specs.Scans.{IsStuck, IsLongBinary, IsTooLong}
use Rattle.document_laws.proofs.Once.{passed_through, moves_once, reaches_once}
use Rattle.document_laws.proofs.Standings.{standing_reached}

module _ (s : PlainSchema) where
  -- a document that goes on with an event moves by it from the state that was reached
  record GoesOnBy (events : List Event) (event : Event) (put bits : List Bool) (state : State) : Type 0 where
    pub new : State
    pub more : List Bool
    pub rest : List Bool
    pub moves : Moves WritesValue s state event more new
    pub bits_are : bits ≡ (put ++ more) ++ rest

  goes_on : (events : List Event) (event : Event) (draft : Draft) (later : List Event) (number : ℕ) (tree : Tree) (bits : List Bool) → HasPut s events draft →
      later ++ (event ∷ events) ≡ reverse (document_events number tree) → SpellsDocument WritesValue s number tree bits → GoesOnBy events event draft.bits bits draft.state
  goes_on events event draft later number tree bits h are d =
      let told = document_tells WritesValue s number tree bits d in
      let through = passed_through WritesValue s later (event ∷ events) bits (stands Behind told.0) (subst (λ (l : List Event). Reaches WritesValue s l bits (stands Behind told.0)) (sym are) told.1) in
      let r = through.reached in
      let same = reaches_once WritesValue value_once s events r.1 draft.bits r.0 draft.state r.3 h in
      record {
        new = through.state;
        more = r.2;
        rest = through.rest;
        moves = subst (λ (x : State). Moves WritesValue s x event r.2 through.state) same.1 r.4;
        bits_are = through.bits_are ∙ ap (λ (l : List Bool). l ++ through.rest) (r.5 ∙ ap (λ (l : List Bool). l ++ r.2) same.0);
      }

  pub not_offered : (events : List Event) (event : Event) (draft : Draft) → HasPut s events draft → (IsOfferedAs s draft.state (Some event) → ⊥) → IsStuck s (event ∷ events)
  not_offered events event draft h none later number tree bits are d small =
      let on = goes_on events event draft later number tree bits h are d in none (on.more, on.new, on.moves)

  pub no_room : (events : List Event) (event : Event) (draft : Draft) → HasPut s events draft → length draft.room ≡ 65536 → HasNoRoom s draft (Some event) → IsStuck s (event ∷ events)
  no_room events event draft h room full later number tree bits are d small =
      let put = draft.bits in
      let on = goes_on events event draft later number tree bits h are d in
      let is = standing_reached WritesValue s events put draft.state h in
      let same = (moves_once WritesValue value_once s draft.state event full.0 on.more full.1.0 on.new is full.1.1 on.moves).0 in
      let long : length bits ≡ length put + length on.more + length on.rest =
      ap length on.bits_are ∙ length-append (put ++ on.more) on.rest ∙ ap (λ (n : ℕ). n + length on.rest) (length-append put on.more) in
      let needs : 8 * length draft.room < length put + length full.0 = full.2 in
      let item : length full.0 ≡ length on.more = ap length same in
      omega (arith, long, needs, item, room, small)

  -- ---- a Binary that is longer than a room

  long_value : (d : Datatype) (entries after : Entries) (name : ℕ) (v : Value) (bits : List Bool) → IsLongBinary v → WritesValue d entries name v bits after → 8 * 65536 < length bits
  long_value (Binary most) entries after name (Bytes bytes) bits long h =
      let all : length bits ≡ length (shortest_unsigned (length bytes)) + length (bits_of bytes) = ap length h.1 ∙ length-append (shortest_unsigned (length bytes)) (bits_of bytes) in
      let inside = length-bits_of bytes in
      let many : 65536 < length bytes = long in
      omega (arith, all, inside, many)
  long_value d entries after name (Truth truth) bits long h = absurd long
  long_value d entries after name (Ordinal ordinal) bits long h = absurd long
  long_value d entries after name (Number v) bits long h = absurd long
  long_value d entries after name (Text chars) bits long h = absurd long
  long_value d entries after name (Bytes bytes) bits long h = absurd h

  long_move : (standing : Standing) (entries : Entries) (event : Event) (bits : List Bool) (new : State) → IsTooLong event → Moves WritesValue s (stands standing entries) event bits new → 8 * 65536 < length bits
  long_move (Inside top above) entries (Attribute name value) bits new long m =
      let less = long_value m.datatype entries m.after name value m.inside long m.spelled in
      let all : length bits ≡ length m.code + length m.inside = ap length m.bits_are ∙ length-append m.code m.inside in
      omega (arith, less, all)
  long_move (Inside top above) entries (Content value) bits new long m =
      let less = long_value m.datatype entries m.after top.name value m.inside long m.spelled in
      let all : length bits ≡ length m.code + length m.inside = ap length m.bits_are ∙ length-append m.code m.inside in
      omega (arith, less, all)
  long_move standing entries (Document number) bits new long m = absurd long
  long_move standing entries (Start name) bits new long m = absurd long
  long_move standing entries EndElement bits new long m = absurd long
  long_move standing entries event bits new long m = absurd m

  pub too_long : (events : List Event) (event : Event) (draft : Draft) → HasPut s events draft → IsTooLong event → IsStuck s (event ∷ events)
  too_long events event draft h long later number tree bits are d small =
      let put = draft.bits in
      let on = goes_on events event draft later number tree bits h are d in
      let less = long_move draft.state.standing draft.state.entries event on.more on.new long on.moves in
      let whole : length bits ≡ length put + length on.more + length on.rest =
      ap length on.bits_are ∙ length-append (put ++ on.more) on.rest ∙ ap (λ (n : ℕ). n + length on.rest) (length-append put on.more) in
      omega (arith, less, whole, small)

  -- ---- as a writer answers

  stuck_room : (events : List Event) (event : Event) (told : Option Event) (draft : Draft) → told ≡ Some event → HasPut s events draft → length draft.room ≡ 65536 →
      HasNoRoom s draft told → IsStuck s (event ∷ events)
  stuck_room events event told draft is h room full = no_room events event draft h room (subst (λ (x : Option Event). HasNoRoom s draft x) is full)

  pub stuck_tried : {T : Type 0} (r : Result T NotPut) (events : List Event) (event : Event) (told : Option Event) (draft : Draft) → told ≡ Some event → HasPut s events draft → length draft.room ≡ 65536 →
      (r ≡ Err NotOffered → IsOfferedAs s draft.state told → ⊥) → ((f : Full) → r ≡ Err (NoRoom f) → HasNoRoom s draft told) → IsErr r → IsStuck s (event ∷ events)
  stuck_tried {T} (Ok x) events event told draft is h room other full failed = absurd cc
  stuck_tried {T} (Err NotOffered) events event told draft is h room other full failed =
      not_offered events event draft h (λ o. other refl (subst (λ (x : Option Event). IsOfferedAs s draft.state x) (sym is) o))
  stuck_tried {T} (Err (NoRoom f)) events event told draft is h room other full failed = stuck_room events event told draft is h room (full f refl)

pub failed_by : (b failed : Bool) → failed ≡ not b → IsFalse b → IsTrue failed
failed_by true failed is no_more = absurd (search rules)
failed_by false failed is no_more = subst (λ (x : Bool). IsTrue x) (sym is) (search rules)

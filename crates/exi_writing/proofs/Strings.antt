-- Texts that are written.
use Rattle.std.proofs.Common.{◌≡◌, ℕ, ◌+◌, ◌*◌, ◌^◌, ◌<◌, ◌≤◌, Bool, cond, eqb, List, [], ◌∷◌, ◌++◌, length, drop, refl, sym, ap, subst, ◌∙◌, arith, append_assoc, inl, inr, IsUtf8, chars}
use Rattle.std.specs.List.{AllByRecursion}
use Rattle.std.specs.Char.{IsScalar}
use Rattle.std.proofs.lemmas.List.{length-append, length-map, map-append, append-nil, drop_at}
use Rattle.std.proofs.lemmas.Str.{encodes-chars, length-encode, len_utf8_bounds}
use Rattle.std.proofs.Math.Dec.{eqb-suc-zero}
use Rattle.std.proofs.Math.Utf8.{encodes, encode, scalar_cases}
use Rattle.exi_spec.specs.Bits.{number_bits}
use Rattle.exi_spec.specs.Items.{SpellsChars, shortest_unsigned, shortest_chars}
use Rattle.exi_spec.proofs.ShortestLaws.{shortest}
use Rattle.exi_bits.specs.Lent.{Holds, items_of, text_at}
use Rattle.exi_bits.specs.Pens.{written_bits, Writes, Needs}
use Rattle.exi_bits.specs.declared.pen.BitPen.{BitPen}
use Rattle.exi_bits.specs.declared.span.SpanAt.{SpanAt}
use Rattle.exi_bits.proofs.Spans.{items_of-held}
use Rattle.exi_reading.specs.Table.{global_of, local_of}
use Rattle.exi_reading.specs.Texts.{IsIndexWidth, IsFirstAt, IsAbsent, WritesHit, entered}
use Rattle.exi_reading.specs.Trees.{Text}
use Rattle.exi_reading.specs.Values.{Entries, most_entries, SpellsCode}
use Rattle.exi_reading.specs.Meaning.{AreTexts, texts_in}
use Rattle.exi_reading.proofs.Places.{AreTexts-push}
use Rattle.exi_writing.specs.Writing.{Puts, Lacks, WritesMore}
use Rattle.exi_writing.specs.Entering.{HasEntryFor, SpellsHitAt, WritesTextInto}
use Rattle.exi_writing.proofs.Pens.{needs_more, needs_behind}
use Rattle.exi_writing.proofs.Stays.{are_texts_behind, texts_behind}

-- ---- code points

length-encodes : (cs : List ℕ) → length (encodes cs) ≤ 4 * length cs
length-encodes [] = omega arith
length-encodes (c ∷ cs) =
    omega (arith, length-encodes cs, length-append (encode c) (encodes cs), length-encode c, (len_utf8_bounds c).1)

-- a code point takes 4 bytes at most
pub few_bytes : (text : List ℕ) → IsUtf8 text → length text ≤ 4 * length (chars text)
few_bytes text u = omega (arith, ap length (encodes-chars text u), length-encodes (chars text))

char_fits : (char : ℕ) → IsScalar char → char < 2 ^ 64
char_fits char s = elim (scalar_cases char s) [ inl h ↦ omega arith | inr h ↦ omega arith ]

shortest_spells : (text : List ℕ) → AllByRecursion (λ char. IsScalar char) text → SpellsChars text (shortest_chars text)
shortest_spells [] all = refl
shortest_spells (char ∷ others) all = (
  shortest_unsigned char,
  shortest_chars others,
  record { scalar = all.0; spelled = (shortest char (char_fits char all.0)).spelled },
  shortest_spells others all.1,
  refl,
)

-- ---- entries that are kept

pub length-texts_in : (bits : List Bool) (entries : List (ℕ × SpanAt)) → length (texts_in bits entries) ≡ length entries
length-texts_in bits entries = length-map entries (λ e. (e.0, items_of (text_at bits e.1)))

pub texts_kept : (old new : BitPen) (bits : List Bool) (entries : List (ℕ × SpanAt)) → Writes old new bits → AreTexts (written_bits old) entries → texts_in (written_bits new) entries ≡ texts_in (written_bits old) entries
texts_kept old new bits entries w all = ap (λ (l : List Bool). texts_in l entries) w.written ∙ texts_behind (written_bits old) bits entries all

pub are_kept : (old new : BitPen) (entries : List (ℕ × SpanAt)) → WritesMore old new → AreTexts (written_bits old) entries → AreTexts (written_bits new) entries
are_kept old new entries w all = subst (λ (l : List Bool). AreTexts l entries) (sym w.1.written) (are_texts_behind (written_bits old) w.0 entries all)

-- ---- a hit

hit : (announced count index : ℕ) (partition : List (List ℕ)) (text : List ℕ) (bits : List Bool) → count ≡ length partition → IsFirstAt partition text index → SpellsHitAt announced count index bits → WritesHit announced partition text bits
hit announced count index partition text bits long first s =
    let code = s.1 in (
      s.0,
      (index, code.width, first, subst (λ (n : ℕ). IsIndexWidth n code.width) long code.is_width, code.spelled),
      s.2,
    )

-- a spelling that keeps the entries
abbrev pub Keeps : Entries → ℕ → List ℕ → List Bool → Type 0
Keeps entries name text bits = WritesTextInto entries name text bits entries

puts_kept : (old new : BitPen) (entries : List (ℕ × SpanAt)) (name : ℕ) (text : List ℕ) → AreTexts (written_bits old) entries → Puts (Keeps (texts_in (written_bits old) entries) name text) old new → Puts (λ bits. WritesTextInto (texts_in (written_bits old) entries) name text bits (texts_in (written_bits new) entries)) old new
puts_kept old new entries name text all p =
    (p.0, subst (λ (after : Entries). WritesTextInto (texts_in (written_bits old) entries) name text p.0 after) (sym (texts_kept old new p.0 entries p.2 all)) p.1, p.2)

lacks_kept : (pen : BitPen) (entries : Entries) (name : ℕ) (text : List ℕ) → Lacks (Keeps entries name text) pen → Lacks (λ bits. (after : Entries) × WritesTextInto entries name text bits after) pen
lacks_kept pen entries name text p = (p.0, (entries, p.1), p.2)

pub keeps_local : (entries : Entries) (name count index : ℕ) (text : List ℕ) (bits : List Bool) → count ≡ length (local_of name entries) → length entries ≤ most_entries → IsFirstAt (local_of name entries) text index → SpellsHitAt 0 count index bits → Keeps entries name text bits
keeps_local entries name count index text bits long few first s = (inl (hit 0 count index (local_of name entries) text bits long first s, refl), few)

pub keeps_global : (entries : Entries) (name count index : ℕ) (text : List ℕ) (bits : List Bool) → count ≡ length (global_of entries) → length entries ≤ most_entries → IsAbsent (local_of name entries) text → IsFirstAt (global_of entries) text index → SpellsHitAt 1 count index bits → Keeps entries name text bits
keeps_global entries name count index text bits long few absent first s = (inr (inl (absent, hit 1 count index (global_of entries) text bits long first s, refl)), few)

pub puts_local : (old new : BitPen) (entries : List (ℕ × SpanAt)) (name count index : ℕ) (text : List ℕ) → AreTexts (written_bits old) entries → count ≡ length (local_of name (texts_in (written_bits old) entries)) → length entries ≤ most_entries → IsFirstAt (local_of name (texts_in (written_bits old) entries)) text index → Puts (SpellsHitAt 0 count index) old new → Puts (λ bits. WritesTextInto (texts_in (written_bits old) entries) name text bits (texts_in (written_bits new) entries)) old new
puts_local old new entries name count index text all long few first p =
    let held = texts_in (written_bits old) entries in
    puts_kept old new entries name text all (p.0, keeps_local held name count index text p.0 long (omega (arith, few, length-texts_in (written_bits old) entries)) first p.1, p.2)

pub lacks_local : (pen : BitPen) (entries : List (ℕ × SpanAt)) (name count index : ℕ) (text : List ℕ) → count ≡ length (local_of name (texts_in (written_bits pen) entries)) → length entries ≤ most_entries → IsFirstAt (local_of name (texts_in (written_bits pen) entries)) text index → Lacks (SpellsHitAt 0 count index) pen → Lacks (λ bits. (after : Entries) × WritesTextInto (texts_in (written_bits pen) entries) name text bits after) pen
lacks_local pen entries name count index text long few first p =
    let held = texts_in (written_bits pen) entries in
    lacks_kept pen held name text (p.0, keeps_local held name count index text p.0 long (omega (arith, few, length-texts_in (written_bits pen) entries)) first p.1, p.2)

pub puts_global : (old new : BitPen) (entries : List (ℕ × SpanAt)) (name count index : ℕ) (text : List ℕ) → AreTexts (written_bits old) entries → count ≡ length (global_of (texts_in (written_bits old) entries)) → length entries ≤ most_entries → IsAbsent (local_of name (texts_in (written_bits old) entries)) text → IsFirstAt (global_of (texts_in (written_bits old) entries)) text index → Puts (SpellsHitAt 1 count index) old new → Puts (λ bits. WritesTextInto (texts_in (written_bits old) entries) name text bits (texts_in (written_bits new) entries)) old new
puts_global old new entries name count index text all long few absent first p =
    let held = texts_in (written_bits old) entries in
    puts_kept old new entries name text all (p.0, keeps_global held name count index text p.0 long (omega (arith, few, length-texts_in (written_bits old) entries)) absent first p.1, p.2)

pub lacks_global : (pen : BitPen) (entries : List (ℕ × SpanAt)) (name count index : ℕ) (text : List ℕ) → count ≡ length (global_of (texts_in (written_bits pen) entries)) → length entries ≤ most_entries → IsAbsent (local_of name (texts_in (written_bits pen) entries)) text → IsFirstAt (global_of (texts_in (written_bits pen) entries)) text index → Lacks (SpellsHitAt 1 count index) pen → Lacks (λ bits. (after : Entries) × WritesTextInto (texts_in (written_bits pen) entries) name text bits after) pen
lacks_global pen entries name count index text long few absent first p =
    let held = texts_in (written_bits pen) entries in
    lacks_kept pen held name text (p.0, keeps_global held name count index text p.0 long (omega (arith, few, length-texts_in (written_bits pen) entries)) absent first p.1, p.2)

-- the number has no room, or the index behind it
pub lacks_number : (pen : BitPen) (announced count index width : ℕ) → index < count → IsIndexWidth count width → Needs pen (length (shortest_unsigned announced)) → Lacks (SpellsHitAt announced count index) pen
lacks_number pen announced count index width below is_width needs =
    let rest = number_bits width index in
    let code : SpellsCode count index rest = record { below = below; width = width; is_width = is_width; spelled = refl } in
    (shortest_unsigned announced ++ rest, (rest, code, refl), needs_more pen (shortest_unsigned announced) rest needs)

pub lacks_index : (old mid : BitPen) (announced count index : ℕ) → Writes old mid (shortest_unsigned announced) → Lacks (SpellsCode count index) mid → Lacks (SpellsHitAt announced count index) old
lacks_index old mid announced count index w p =
    (shortest_unsigned announced ++ p.0, (p.0, p.1, refl), needs_behind old mid (shortest_unsigned announced) p.0 w p.2)

-- ---- a text that is spelled out

-- it has room among the entries
pub has_room : (entries : Entries) (name n : ℕ) (text : List ℕ) → HasEntryFor entries name (Text text) → IsAbsent (local_of name entries) text → IsAbsent (global_of entries) text → n ≡ length text → 0 < n → length entries < most_entries
has_room entries name n [] room local global is some = absurd (omega (arith, is, some))
has_room entries name n (char ∷ chars) room local global is some = room local global

pub entered_few : (entries : Entries) (name : ℕ) (text : List ℕ) → length entries ≤ most_entries → HasEntryFor entries name (Text text) → IsAbsent (local_of name entries) text → IsAbsent (global_of entries) text → length (entered entries name text) ≤ most_entries
entered_few entries name [] few room local global = few
entered_few entries name (char ∷ chars) few room local global =
    let more = room local global in omega (arith, length-append entries ((name, char ∷ chars) ∷ []), more)

-- its length and its code points
abbrev pub spelled_out : List ℕ → List Bool
spelled_out text = shortest_unsigned (length text + 2) ++ shortest_chars text

pub lacks_spelled : (pen : BitPen) (entries : Entries) (name : ℕ) (text : List ℕ) → length entries ≤ most_entries → HasEntryFor entries name (Text text) → IsAbsent (local_of name entries) text → IsAbsent (global_of entries) text → Needs pen (length (spelled_out text)) → Lacks (λ bits. (after : Entries) × WritesTextInto entries name text bits after) pen
lacks_spelled pen entries name text few room local global needs =
    (spelled_out text, (entered entries name text, (inr (inr (local, global, refl, refl)), entered_few entries name text few room local global)), needs)

-- where it stands
stands_there : (old new : BitPen) (at : SpanAt) (text : List ℕ) → Writes old new (spelled_out text) → at.bit ≡ length (written_bits old ++ shortest_unsigned (length text + 2)) → at.chars ≡ length text → AllByRecursion (λ char. IsScalar char) text → Holds (text_at (written_bits new) at) text
stands_there old new at text w bit count scalar =
    let front = written_bits old ++ shortest_unsigned (length text + 2) in
    let all : written_bits new ≡ front ++ shortest_chars text = w.written ∙ sym (append_assoc (written_bits old) (shortest_unsigned (length text + 2)) (shortest_chars text)) in
    record {
      within = omega (arith, bit, ap length all, length-append front (shortest_chars text));
      long = sym count;
      spelled = (
        shortest_chars text,
        [],
        shortest_spells text scalar,
        ap (λ (l : List Bool). drop at.bit l) all ∙ drop_at front (shortest_chars text) at.bit (sym bit) ∙ sym (append-nil (shortest_chars text)),
      );
    }

-- the entries behind it
pub record Entered (old new : BitPen) (before after : List (ℕ × SpanAt)) (name : ℕ) (text : List ℕ) : Type 0 where
  pub are_texts : AreTexts (written_bits new) after
  pub texts : texts_in (written_bits new) after ≡ entered (texts_in (written_bits old) before) name text

enters : (old new : BitPen) (before after : List (ℕ × SpanAt)) (name : ℕ) (at : SpanAt) (text : List ℕ) → AreTexts (written_bits old) before → Writes old new (spelled_out text) → Holds (text_at (written_bits new) at) text → at.chars ≡ length text → after ≡ cond (eqb at.chars 0) before (before ++ (name, at) ∷ []) → Entered old new before after name text
enters old new before after name at [] all w held count is =
    let none : cond (eqb at.chars 0) before (before ++ (name, at) ∷ []) ≡ before = ap (λ (n : ℕ). cond (eqb n 0) before (before ++ (name, at) ∷ [])) count in
    let same : after ≡ before = is ∙ none in
    record {
      are_texts = subst (λ (l : List (ℕ × SpanAt)). AreTexts (written_bits new) l) (sym same) (are_kept old new before (spelled_out [], w) all);
      texts = ap (λ (l : List (ℕ × SpanAt)). texts_in (written_bits new) l) same ∙ texts_kept old new (spelled_out []) before w all;
    }
enters old new before after name at (char ∷ chars) all w held count is =
    let one : cond (eqb at.chars 0) before (before ++ (name, at) ∷ []) ≡ before ++ (name, at) ∷ [] =
    ap (λ (n : ℕ). cond (eqb n 0) before (before ++ (name, at) ∷ [])) count
    ∙ ap (λ (b : Bool). cond b before (before ++ (name, at) ∷ [])) (eqb-suc-zero (length chars)) in
    let same : after ≡ before ++ (name, at) ∷ [] = is ∙ one in
    record {
      are_texts = subst (λ (l : List (ℕ × SpanAt)). AreTexts (written_bits new) l) (sym same)
          (AreTexts-push (written_bits new) before (name, at) (are_kept old new before (spelled_out (char ∷ chars), w) all) (char ∷ chars, held));
      texts =
          ap (λ (l : List (ℕ × SpanAt)). texts_in (written_bits new) l) same
          ∙ map-append (λ (e : ℕ × SpanAt). (e.0, items_of (text_at (written_bits new) e.1))) before ((name, at) ∷ [])
          ∙ ap (λ (l : Entries). l ++ (name, items_of (text_at (written_bits new) at)) ∷ []) (texts_kept old new (spelled_out (char ∷ chars)) before w all)
          ∙ ap (λ (t : List ℕ). texts_in (written_bits old) before ++ (name, t) ∷ []) (items_of-held (text_at (written_bits new) at) (char ∷ chars) held);
    }

pub enters_text : (old new : BitPen) (before after : List (ℕ × SpanAt)) (name : ℕ) (at : SpanAt) (text : List ℕ) → AreTexts (written_bits old) before → Writes old new (spelled_out text) → at.bit ≡ length (written_bits old ++ shortest_unsigned (length text + 2)) → at.chars ≡ length text → AllByRecursion (λ char. IsScalar char) text → after ≡ cond (eqb at.chars 0) before (before ++ (name, at) ∷ []) → Entered old new before after name text
enters_text old new before after name at text all w bit count scalar is =
    enters old new before after name at text all w (stands_there old new at text w bit count scalar) count is

pub puts_spelled : (old new : BitPen) (before after : List (ℕ × SpanAt)) (name : ℕ) (text : List ℕ) → Entered old new before after name text → Writes old new (spelled_out text) → length before ≤ most_entries → HasEntryFor (texts_in (written_bits old) before) name (Text text) → IsAbsent (local_of name (texts_in (written_bits old) before)) text → IsAbsent (global_of (texts_in (written_bits old) before)) text → Puts (λ bits. WritesTextInto (texts_in (written_bits old) before) name text bits (texts_in (written_bits new) after)) old new
puts_spelled old new before after name text e w few room local global =
    let held = texts_in (written_bits old) before in (
      spelled_out text,
      subst (λ (l : Entries). WritesTextInto held name text (spelled_out text) l) (sym e.texts)
          (inr (inr (local, global, refl, refl)), entered_few held name text (omega (arith, few, length-texts_in (written_bits old) before)) room local global),
      w,
    )

-- One line more: what it says, and that no other entry has it.
use Rattle.std.proofs.Common.{◌≡◌, ℕ, ◌+◌, ◌^◌, ◌<◌, ◌≤◌, Bool, true, false, cond, List, [], ◌∷◌, ◌++◌, length, drop, refl, sym, ap, ◌∙◌, append_assoc, arith}
use Rattle.std.specs.Prelude.{◌≢◌, decimal}
use Rattle.text_tokens.specs.Words.{spaced, line_text, AreWords}
use Rattle.text_tokens.proofs.Splits.{same_line, line_bytes, decimal_word}
use Rattle.charge_world.specs.declared.entry.Entry.{Entry}
use Rattle.trace_text.specs.TraceText.{words_of}
use Rattle.trace_text.specs.Pasts.{is_hearing, hearing_number}
use Rattle.trace_text.proofs.Spelling.{words_are, some_words}
use Rattle.trace_text.proofs.Injective.{words_same}
use Rattle.trace_text.proofs.WholeLines.{line_same, numbered_same}
use Rattle.trace_reading.specs.declared.format.Format.{Format}
use Rattle.trace_reading.specs.declared.format.Format.TheVariants.{Plain, Numbered}
use Rattle.trace_reading.specs.declared.standing.Standing.{Standing}
use Rattle.trace_reading.specs.Readings.{IsOf, IsGood, line_in}
use Rattle.trace_reading.specs.Lines.{lines_in, line_behind, hearings_with, IsLineIn, IsNext, Stands, IsCut, IsReading, IsBadAt}

-- ---- the words of a line

abbrev words_in : Format → List Entry → Entry → List (List ℕ)
words_in Plain past e = words_of e
words_in Numbered past e = decimal (hearing_number (e ∷ past)) ∷ words_of e

line_is : (f : Format) (past : List Entry) (e : Entry) → line_in f past e ≡ line_text (words_in f past e)
line_is Plain past e = refl
line_is Numbered past e = refl

are : (f : Format) (posts : ℕ) (past : List Entry) (e : Entry) → IsGood f posts (e ∷ past) → AreWords (words_in f past e)
are Plain posts past e good = words_are e good.trace.0.0.0.0.0 good.trace.0.0.0.1
are Numbered posts past e good = (decimal_word (hearing_number (e ∷ past)) good.trace.2, words_are e good.trace.0.0.0.0 good.trace.0.0.1)

some : (f : Format) (past : List Entry) (e : Entry) → 0 < length (words_in f past e)
some Plain past e = some_words e
some Numbered past e = omega arith

same_words : (f : Format) (posts : ℕ) (past : List Entry) (d e : Entry) → IsGood f posts (d ∷ past) → IsGood f posts (e ∷ past) → words_in f past d ≡ words_in f past e → d ≡ e
same_words Plain posts past d e x y same = words_same d e x.trace.0.0.0.0.0 x.trace.0.0.0.1 y.trace.0.0.0.0.0 y.trace.0.0.0.1 same
same_words Numbered posts past d e x y same = words_same d e x.trace.0.0.0.0 x.trace.0.0.1 y.trace.0.0.0.0 y.trace.0.0.1 (ap (drop 1) same)

-- no two entries have one line behind a past
pub same_entry : (f : Format) (posts : ℕ) (past : List Entry) (d e : Entry) (r s : List ℕ) → IsGood f posts (d ∷ past) → IsGood f posts (e ∷ past)
    → line_in f past d ++ r ≡ line_in f past e ++ s → (d ≡ e) × (r ≡ s)
same_entry f posts past d e r s x y said =
    let texts : line_text (words_in f past d) ++ r ≡ line_text (words_in f past e) ++ s = rw (line_is f past d, line_is f past e) at said in
    let lines = same_line (words_in f past d) (words_in f past e) r s (are f posts past d x) (are f posts past e y) (some f past d) (some f past e) texts in
    (same_words f posts past d e x y lines.0, lines.1)

no_end : (front more : List ℕ) → front ++ 10 ∷ more ≡ [] → ⊥
no_end [] more e = cc
no_end (b ∷ front) more e = cc

-- a line has a byte
pub some_line : (f : Format) (past : List Entry) (e : Entry) (more : List ℕ) → line_in f past e ++ more ≡ [] → ⊥
some_line f past e more none =
    let text : (spaced (words_in f past e) ++ 10 ∷ []) ++ more ≡ [] = rw (line_is f past e) at none in
    let text' : spaced (words_in f past e) ++ 10 ∷ more ≡ [] = sym (append_assoc (spaced (words_in f past e)) (10 ∷ []) more) ∙ text in
    no_end (spaced (words_in f past e)) more text'

-- the first line of a text that begins with the line of an entry
pub cut_line : (f : Format) (posts : ℕ) (past : List Entry) (e : Entry) (text line rest more : List ℕ) → IsGood f posts (e ∷ past) → IsCut text line rest
    → text ≡ line_in f past e ++ more → (line ≡ line_in f past e) × (rest ≡ more)
cut_line f posts past e text line rest more good cut is =
    let front : List ℕ = spaced (words_in f past e) in
    let text_is : text ≡ front ++ 10 ∷ more = is ∙ ap (λ (t : List ℕ). t ++ more) (line_is f past e) ∙ append_assoc front (10 ∷ []) more in
    let both = cut.first front more (line_bytes (words_in f past e) (are f posts past e good)) text_is in
    (both.0 ∙ sym (line_is f past e), both.1)

-- ---- counting hearings

one_more : (b : Bool) (n : ℕ) → cond b 1 0 + n ≤ n + 1
one_more true n = omega arith
one_more false n = omega arith

pub hearings_bound : (n : ℕ) (e : Entry) → hearings_with n e ≤ n + 1
hearings_bound n e = one_more (is_hearing e) n

pub few_hearings : (past : List Entry) → hearing_number past ≤ length past
few_hearings [] = omega arith
few_hearings (e ∷ past) = omega (arith, few_hearings past, hearings_bound (hearing_number past) e)

-- ---- pasts with one entry more

pub lines_more : (f : Format) (past : List Entry) (e : Entry) → lines_in f (e ∷ past) ≡ lines_in f past ++ line_in f past e
lines_more Plain past e = refl
lines_more Numbered past e = refl

pub line_now : (f : Format) (posts : ℕ) (past : List Entry) (s : Standing) (e : Entry) → Stands f posts past s → line_behind s.format s.hearings e ≡ line_in f past e
line_now Plain posts past s e st = rw st.format_is refl
line_now Numbered posts past s e st = rw (st.format_is, st.hearings_are) refl

pub next_good : (f : Format) (posts : ℕ) (past : List Entry) (s : Standing) (e : Entry) → Stands f posts past s → IsGood f posts (e ∷ past) → IsNext s e
next_good Plain posts past s e st good = record {
  line = rw st.format_is good.trace.0.0;
  posts = rw st.posts_are good.all_of.0;
  hears = λ is. st.over ∙ good.trace.1.0 is;
}
next_good Numbered posts past s e st good = record {
  line = rw st.format_is good.trace.0.0;
  posts = rw st.posts_are good.all_of.0;
  hears = λ is. st.over ∙ good.trace.1.0 is;
}

pub good_next : (f : Format) (posts : ℕ) (past : List Entry) (s : Standing) (e : Entry) → Stands f posts past s → hearing_number past < 2 ^ 63 → IsGood f posts past → IsNext s e
    → IsGood f posts (e ∷ past)
good_next Plain posts past s e st few good next =
    let line : IsLineIn Plain e = rw st.format_is at next.line in
    let of : IsOf posts e = rw st.posts_are at next.posts in
    record {
      trace = ((line, good.trace.0), ((λ is. sym st.over ∙ next.hears is), good.trace.1));
      all_of = (of, good.all_of);
    }
good_next Numbered posts past s e st few good next =
    let line : IsLineIn Numbered e = rw st.format_is at next.line in
    let of : IsOf posts e = rw st.posts_are at next.posts in
    record {
      trace = ((line, good.trace.0), ((λ is. sym st.over ∙ next.hears is), good.trace.1), omega (arith, few, hearings_bound (hearing_number past) e));
      all_of = (of, good.all_of);
    }

pub good_tail : (f : Format) (posts : ℕ) (past : List Entry) (e : Entry) → IsGood f posts (e ∷ past) → IsGood f posts past
good_tail Plain posts past e good = record { trace = (good.trace.0.1, good.trace.1.1); all_of = good.all_of.1 }
good_tail Numbered posts past e good =
    let fewer : hearing_number past ≤ hearing_number (e ∷ past) = omega arith in
    record { trace = (good.trace.0.1, good.trace.1.1, omega (arith, fewer, good.trace.2)); all_of = good.all_of.1 }

-- ---- one entry for each line

pub one_entry : (f : Format) (n : ℕ) (d e : Entry) → n < 2 ^ 63 → IsLineIn f d → IsLineIn f e → line_behind f n d ≡ line_behind f n e → d ≡ e
one_entry Plain n d e small x y said = line_same d e x.0 y.0 said
one_entry Numbered n d e small x y said =
    let both = numbered_same (hearings_with n d) (hearings_with n e) d e (omega (arith, small, hearings_bound n d)) (omega (arith, small, hearings_bound n e)) x y said in
    both.1

-- ---- reading line by line

pub reading_more : (f : Format) (posts : ℕ) (lines : List ℕ) (past : List Entry) (s s' : Standing) (rest line more : List ℕ) (e : Entry) → IsReading f posts lines past s rest → IsCut rest line more
    → hearing_number past < 2 ^ 63 → IsNext s e → line ≡ line_behind s.format s.hearings e → Stands f posts (e ∷ past) s' → IsReading f posts lines (e ∷ past) s' more
reading_more f posts lines past s s' rest line more e reading cut few next is st = record {
  read = record {
    good = good_next f posts past s e reading.stands few reading.read.good next;
    whole =
        let line_is : line ≡ line_in f past e = is ∙ line_now f posts past s e reading.stands in
        let rest_is : rest ≡ line_in f past e ++ more = cut.whole ∙ ap (λ (t : List ℕ). t ++ more) line_is in
        reading.read.whole ∙ ap (λ (t : List ℕ). lines_in f past ++ t) rest_is ∙ sym (append_assoc (lines_in f past) (line_in f past e) more)
        ∙ ap (λ (t : List ℕ). t ++ more) (sym (lines_more f past e));
  };
  stands = st;
}

pub reading_bad : (f : Format) (posts : ℕ) (lines : List ℕ) (past : List Entry) (s : Standing) (rest line more : List ℕ) (number : ℕ) → IsReading f posts lines past s rest → rest ≢ [] → IsCut rest line more
    → ((e : Entry) → IsNext s e → line ≢ line_behind s.format s.hearings e) → number ≡ length past + 2 → IsBadAt f posts lines number
reading_bad f posts lines past s rest line more number reading rest_some cut none count = record {
  past = past;
  rest = rest;
  read = reading.read;
  some = rest_some;
  bad = λ e less good is.
      let both = cut_line f posts past e rest line more less good cut is in
      none e (next_good f posts past s e reading.stands good) (both.0 ∙ sym (line_now f posts past s e reading.stands));
  count = count;
}

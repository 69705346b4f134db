-- A text that is a past's has no bad line.
use Rattle.std.proofs.Common.{◌≡◌, ℕ, List, [], ◌∷◌, ◌++◌, get_or, refl, sym, ap, subst, ◌∙◌, append_assoc, inl, inr, arith}
use Rattle.std.specs.Prelude.{◌≢◌, reverse}
use Rattle.std.proofs.lemmas.List.{append_cancel_left, reverse-append, reverse-reverse, append-nil}
use Rattle.charge_world.specs.declared.entry.Entry.{Entry}
use Rattle.trace_text.specs.Pasts.{first_line_1, first_line_2}
use Rattle.trace_text.proofs.Traces.{same_past_1, same_past_2, two_formats}
use Rattle.trace_reading.specs.declared.format.Format.{Format}
use Rattle.trace_reading.specs.declared.format.Format.TheVariants.{Plain, Numbered}
use Rattle.trace_reading.specs.Readings.{first_line_in, line_in, text_in, IsGood, Tells, IsBadBehind, IsFirstBad}
use Rattle.trace_reading.specs.Lines.{lines_in, IsReadTo, IsBadAt}
use Rattle.trace_reading.proofs.Steps.{same_entry, some_line, lines_more, good_tail}

pub text_is : (f : Format) (past : List Entry) → text_in f past ≡ first_line_in f ++ lines_in f past
text_is Plain past = refl
text_is Numbered past = refl

-- entries, the oldest first, on top of a past, and their lines
onto : List Entry → List Entry → List Entry
onto [] past = past
onto (e ∷ es) past = onto es (e ∷ past)

lines_onto : Format → List Entry → List Entry → List ℕ
lines_onto f [] past = []
lines_onto f (e ∷ es) past = line_in f past e ++ lines_onto f es (e ∷ past)

lines_split : (f : Format) (es past : List Entry) → lines_in f (onto es past) ≡ lines_in f past ++ lines_onto f es past
unfolding onto lines_onto
lines_split f [] past = sym (append-nil (lines_in f past))
lines_split f (e ∷ es) past =
    lines_split f es (e ∷ past) ∙ ap (λ (t : List ℕ). t ++ lines_onto f es (e ∷ past)) (lines_more f past e)
    ∙ append_assoc (lines_in f past) (line_in f past e) (lines_onto f es (e ∷ past))

onto_reverse : (es past : List Entry) → onto es past ≡ reverse es ++ past
unfolding onto
onto_reverse [] past = refl
onto_reverse (e ∷ es) past =
    onto_reverse es (e ∷ past) ∙ sym (ap (λ (l : List Entry). l ++ past) (reverse-append (e ∷ []) es) ∙ append_assoc (reverse es) (e ∷ []) past)

whole_onto : (past : List Entry) → onto (reverse past) [] ≡ past
whole_onto past = onto_reverse (reverse past) [] ∙ append-nil (reverse (reverse past)) ∙ reverse-reverse past

good_front : (f : Format) (posts : ℕ) (es past : List Entry) → IsGood f posts (onto es past) → IsGood f posts past
unfolding onto
good_front f posts [] past good = good
good_front f posts (e ∷ es) past good = good_tail f posts past e (good_front f posts es (e ∷ past) good)

fronts : (f : Format) (posts : ℕ) (ps es past : List Entry) (rest : List ℕ) → IsGood f posts (onto ps past) → IsGood f posts (onto es past)
    → lines_onto f ps past ++ rest ≡ lines_onto f es past → rest ≢ []
    → ((e : Entry) (more : List ℕ) → IsGood f posts (e ∷ onto ps past) → rest ≢ line_in f (onto ps past) e ++ more) → ⊥
unfolding onto lines_onto
fronts f posts [] [] past rest gp ge same some none = some same
fronts f posts [] (e ∷ es) past rest gp ge same some none = none e (lines_onto f es (e ∷ past)) (good_front f posts es (e ∷ past) ge) same
fronts f posts (d ∷ ps) [] past rest gp ge same some none =
    some_line f past d (lines_onto f ps (d ∷ past) ++ rest) (sym (append_assoc (line_in f past d) (lines_onto f ps (d ∷ past)) rest) ∙ same)
fronts f posts (d ∷ ps) (e ∷ es) past rest gp ge same some none =
    let regrouped : line_in f past d ++ (lines_onto f ps (d ∷ past) ++ rest) ≡ line_in f past e ++ lines_onto f es (e ∷ past) =
    sym (append_assoc (line_in f past d) (lines_onto f ps (d ∷ past)) rest) ∙ same in
    let both = same_entry f posts past d e (lines_onto f ps (d ∷ past) ++ rest) (lines_onto f es (e ∷ past)) (good_front f posts ps (d ∷ past) gp) (good_front f posts es (e ∷ past) ge) regrouped in
    let at : e ≡ d = sym both.0 in
    fronts f posts ps es (d ∷ past) rest gp (subst (λ (x : Entry). IsGood f posts (onto es (x ∷ past))) at ge)
    (both.1 ∙ ap (λ (x : Entry). lines_onto f es (x ∷ past)) at) some none

nothing_before : (f : Format) (t : List ℕ) → lines_in f [] ++ t ≡ t
nothing_before Plain t = refl
nothing_before Numbered t = refl

-- the lines of one past begin with those of another, and then comes a bad one
no_front : (f : Format) (posts : ℕ) (p q : List Entry) (rest : List ℕ) → IsGood f posts p → IsGood f posts q → lines_in f p ++ rest ≡ lines_in f q → rest ≢ []
    → ((e : Entry) (more : List ℕ) → IsGood f posts (e ∷ p) → rest ≢ line_in f p e ++ more) → ⊥
unfolding onto lines_onto
no_front f posts p q rest gp gq same some none =
    let ps = reverse p in
    let qs = reverse q in
    let p_is : p ≡ onto ps [] = sym (whole_onto p) in
    let q_is : q ≡ onto qs [] = sym (whole_onto q) in
    let p_lines : lines_in f p ≡ lines_onto f ps [] = ap (lines_in f) p_is ∙ lines_split f ps [] ∙ nothing_before f (lines_onto f ps []) in
    let q_lines : lines_in f q ≡ lines_onto f qs [] = ap (lines_in f) q_is ∙ lines_split f qs [] ∙ nothing_before f (lines_onto f qs []) in
    fronts f posts ps qs [] rest (subst (IsGood f posts) p_is gp) (subst (IsGood f posts) q_is gq) (ap (λ (t : List ℕ). t ++ rest) (sym p_lines) ∙ same ∙ q_lines) some
    (subst (λ (x : List Entry). (e : Entry) (more : List ℕ) → IsGood f posts (e ∷ x) → rest ≢ line_in f x e ++ more) p_is none)

other_format : (more less : List ℕ) → first_line_1 ++ more ≡ first_line_2 ++ less → ⊥
other_format more less e = let digit : 49 ≡ 50 = ap (λ (t : List ℕ). get_or t 10 0) e in absurd (omega (arith, digit))

no_later : (posts : ℕ) (f g : Format) (text : List ℕ) (p q : List Entry) → IsBadBehind posts f text p → IsGood g posts q → text ≡ text_in g q → ⊥
no_later posts Plain Plain text p q b good is =
    no_front Plain posts p q b.rest b.good good (append_cancel_left first_line_1 (lines_in Plain p ++ b.rest) (lines_in Plain q) (sym (append_assoc first_line_1 (lines_in Plain p) b.rest) ∙ sym b.front ∙ is)) b.some b.bad
no_later posts Numbered Numbered text p q b good is =
    no_front Numbered posts p q b.rest b.good good (append_cancel_left first_line_2 (lines_in Numbered p ++ b.rest) (lines_in Numbered q) (sym (append_assoc first_line_2 (lines_in Numbered p) b.rest) ∙ sym b.front ∙ is)) b.some b.bad
no_later posts Plain Numbered text p q b good is =
    other_format (lines_in Plain p ++ b.rest) (lines_in Numbered q) (sym (append_assoc first_line_1 (lines_in Plain p) b.rest) ∙ sym b.front ∙ is)
no_later posts Numbered Plain text p q b good is =
    other_format (lines_in Plain q) (lines_in Numbered p ++ b.rest) (sym is ∙ b.front ∙ append_assoc first_line_2 (lines_in Numbered p) b.rest)

pub not_bad : (posts : ℕ) (text : List ℕ) (number : ℕ) (past : List Entry) → Tells posts text past → IsFirstBad posts text number → ⊥
not_bad posts text number past t (inl first) = first.bad t.format (lines_in t.format past) (t.whole ∙ text_is t.format past)
not_bad posts text number past t (inr later) = no_later posts later.format t.format text later.past past later.behind t.good t.whole

-- ---- one past for a text

same_past : (posts : ℕ) (f g : Format) (p q : List Entry) → IsGood f posts p → IsGood g posts q → text_in f p ≡ text_in g q → p ≡ q
same_past posts Plain Plain p q x y e = same_past_1 p q x.trace y.trace e
same_past posts Numbered Numbered p q x y e = same_past_2 p q x.trace y.trace e
same_past posts Plain Numbered p q x y e = absurd (two_formats p q e)
same_past posts Numbered Plain p q x y e = absurd (two_formats q p (sym e))

pub one_past : (posts : ℕ) (text : List ℕ) (p q : List Entry) → Tells posts text p → Tells posts text q → p ≡ q
one_past posts text p q x y = same_past posts x.format y.format p q x.good y.good (sym x.whole ∙ y.whole)

-- ---- the whole text from its lines

pub whole_text : (f : Format) (posts : ℕ) (text lines : List ℕ) (past : List Entry) → text ≡ first_line_in f ++ lines → IsReadTo f posts lines past [] → Tells posts text past
whole_text f posts text lines past is read = record {
  format = f;
  good = read.good;
  whole = is ∙ ap (λ (t : List ℕ). first_line_in f ++ t) (read.whole ∙ append-nil (lines_in f past)) ∙ sym (text_is f past);
}

pub bad_text : (f : Format) (posts : ℕ) (text lines : List ℕ) (number : ℕ) → text ≡ first_line_in f ++ lines → IsBadAt f posts lines number → IsFirstBad posts text number
bad_text f posts text lines number is bad = inr (record {
  format = f;
  past = bad.past;
  behind = record {
    good = bad.read.good;
    rest = bad.rest;
    some = bad.some;
    front = is ∙ ap (λ (t : List ℕ). first_line_in f ++ t) bad.read.whole ∙ sym (append_assoc (first_line_in f) (lines_in f bad.past) bad.rest) ∙ ap (λ (t : List ℕ). t ++ bad.rest) (sym (text_is f bad.past));
    bad = bad.bad;
  };
  count = bad.count;
})

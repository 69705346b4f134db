-- The lines of a site's posts.
use Rattle.std.proofs.Common.{◌≡◌, ℕ, suc, ◌+◌, ◌<◌, ◌≤◌, true, false, List, [], ◌∷◌, ◌++◌, length, take, drop, Option, Ok, refl, sym, ap, ◌∙◌, subst, arith, append_assoc}
use Rattle.std.proofs.lemmas.List.{append-nil, take-append-drop, map-append, length-take-le, drop_more, take_more}
use Rattle.charge_world.specs.declared.entry.Entry.{Entry}
use Rattle.charge_world.specs.declared.failed.Failed.{Failed}
use Rattle.charge_world.specs.Outside.{IsFault, Appends, AppendsSome}
use Rattle.site_posts.specs.declared.place.Place.{Place}
use Rattle.site_posts.specs.declared.report.PostReport.{PostReport}
use Rattle.site_posts.specs.Filling.{at, no_place}
use Rattle.site_laws.specs.Ending.{Counts}
use Rattle.command_status.proofs.Pieces.{appends_more, appends_front, appends_first}
use Rattle.station_command.specs.Lines.{report_line, report_lines, reports_of, CountFrom}

differ : false ≡ true → ⊥
differ h = cc

-- a call that was done leaves the count of faults
pub unfailed : {T : Type 0} (before after : ℕ) (answer : T) → IsFault {T = T} {E = Failed} before after (Ok answer) → after ≡ before
unfailed before after answer h =
    let none : before < after → ⊥ = λ above. differ (h.risen.1 above) in
    omega (arith, h.later)

pub lines_split : (k m : ℕ) (xs ys : List PostReport) → m ≡ k + length xs → report_lines k (xs ++ ys) ≡ report_lines k xs ++ report_lines m ys
lines_split k m [] ys is = ap (λ (n : ℕ). report_lines n ys) (omega (arith, is))
lines_split k m (x ∷ xs) ys is =
    ap (λ (rest : List ℕ). report_line k x ++ rest) (lines_split (suc k) m xs ys (omega (arith, is)))
    ∙ sym (append_assoc (report_line k x) (report_lines (suc k) xs) (report_lines m ys))

-- the posts up to place i, that post, and those behind
places_split : (places : List Place) (i : ℕ) → i < length places → places ≡ take i places ++ at places i ∷ drop (i + 1) places
places_split places i within =
    sym (take-append-drop i places) ∙ ap (λ (rest : List Place). take i places ++ rest) (drop_more places i no_place within)

reports_split : (places : List Place) (i : ℕ) → i < length places
    → reports_of places ≡ reports_of (take i places) ++ (at places i).report ∷ reports_of (drop (i + 1) places)
reports_split places i within =
    ap (λ (ps : List Place). reports_of ps) (places_split places i within)
    ∙ map-append (λ (place : Place). place.report) (take i places) (at places i ∷ drop (i + 1) places)

pub as_many : (places : List Place) → length (reports_of places) ≡ length places
as_many [] = refl
as_many (place ∷ places) = ap (λ (n : ℕ). suc n) (as_many places)

number_of_reports : (places : List Place) (i : ℕ) → i ≤ length places → i + 1 ≡ 1 + length (reports_of (take i places))
number_of_reports places i within =
    omega (arith, as_many (take i places), length-take-le i places within)

lines_of_all : (places : List Place) (i : ℕ) → i < length places → report_lines 1 (reports_of places)
    ≡ report_lines 1 (reports_of (take i places)) ++ (report_line (i + 1) (at places i).report ++ report_lines (suc (i + 1)) (reports_of (drop (i + 1) places)))
lines_of_all places i within =
    ap (λ (rs : List PostReport). report_lines 1 rs) (reports_split places i within)
    ∙ lines_split 1 (i + 1) (reports_of (take i places)) ((at places i).report ∷ reports_of (drop (i + 1) places)) (number_of_reports places i (omega (arith, within)))

lines_of_more : (places : List Place) (i : ℕ) → i < length places
    → report_lines 1 (reports_of (take (i + 1) places)) ≡ report_lines 1 (reports_of (take i places)) ++ report_line (i + 1) (at places i).report
lines_of_more places i within =
    ap (λ (ps : List Place). report_lines 1 (reports_of ps)) (take_more places i no_place within)
    ∙ ap (λ (rs : List PostReport). report_lines 1 rs) (map-append (λ (place : Place). place.report) (take i places) (at places i ∷ []))
    ∙ lines_split 1 (i + 1) (reports_of (take i places)) ((at places i).report ∷ []) (number_of_reports places i (omega (arith, within)))
    ∙ ap (λ (line : List ℕ). report_lines 1 (reports_of (take i places)) ++ line) (append-nil (report_line (i + 1) (at places i).report))

-- one line more
pub one_more : (places : List Place) (i : ℕ) (before then after : Option (List ℕ)) (line : List ℕ) → i < length places
    → line ≡ report_line (i + 1) (at places i).report → Appends before then (report_lines 1 (reports_of (take i places))) → Appends then after line
    → Appends before after (report_lines 1 (reports_of (take (i + 1) places)))
one_more places i before then after line within is earlier now =
    subst (λ (lines : List ℕ). Appends before after lines) (sym (lines_of_more places i within))
    (appends_more before then after _ _ earlier (subst (λ (l : List ℕ). Appends then after l) is now))

-- a line that was not written
pub one_cut : (places : List Place) (i : ℕ) (before then after : Option (List ℕ)) (line : List ℕ) → i < length places
    → line ≡ report_line (i + 1) (at places i).report → Appends before then (report_lines 1 (reports_of (take i places))) → AppendsSome then after line
    → AppendsSome before after (report_lines 1 (reports_of places))
one_cut places i before then after line within is earlier now =
    subst (λ (lines : List ℕ). AppendsSome before after lines) (sym (lines_of_all places i within))
    (appends_front before then after _ _ earlier
    (appends_first then after (report_line (i + 1) (at places i).report) _ (subst (λ (l : List ℕ). AppendsSome then after l) is now)))

-- reports that count a past, each by its place
pub counts_from : (places : List Place) (k : ℕ) (past : List Entry) → ((i : ℕ) → i < length places → Counts (k + i) (at places i).report past)
    → CountFrom k (reports_of places) past
counts_from [] k past counts = tt
counts_from (place ∷ places) k past counts = (
  subst (λ (n : ℕ). Counts n place.report past) (omega arith) (counts 0 (omega arith)),
  counts_from places (suc k) past
      (λ i within. subst (λ (n : ℕ). Counts n (at places i).report past) (omega arith) (counts (suc i) (omega (arith, within)))),
)

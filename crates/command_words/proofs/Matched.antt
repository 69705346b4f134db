-- Words of which none begins with `-` are a command with the values that it needs, or have a fault.
use Rattle.std.proofs.Common.{◌≡◌, ◌∙◌, ◌⊎◌, inl, inr, Bool, cond, true, false, List, [], ◌∷◌, length, Option, Some, None, refl, sym, ap, subst}
use Rattle.std.specs.List.{AllByRecursion, list_all}
use Rattle.std.specs.Prelude.{IsSomeAnd}
use Rattle.std.specs.Str.{bytes_eq}
use Rattle.std.proofs.lemmas.Slice.Eq.{bytes_eq-Decides}
use Rattle.clap.specs.Walk.{Text}
use Rattle.clap.specs.Simple.{subcommand_of}
use Rattle.clap.specs.Kinds.{Kinds}
use Rattle.clap.specs.Faults.{fault_of}
use Rattle.clap.proofs.WalkLemmas.{both}
use Rattle.command_words.specs.Command.{is_plain}
use Rattle.command_words.specs.Grammar.{Form, IsMatched, IsUnmatched, count_of, forms, given_rows, named, program}
use Rattle.command_words.proofs.Leaves.{IsFaulty, IsNoOption, IsPassed, IsStopped, faulty, judged, no_option}
use Rattle.command_words.proofs.Entered.{enters_fault, enters_rows, no_word, other_word}

abbrev pub ArePlain : List Text → Type 0
ArePlain words = list_all is_plain words ≡ true

pub faultless : (kinds : Kinds) → kinds ≡ [] → IsFaulty kinds → ⊥
faultless kinds e h = subst IsFaulty e h

no_options : (words : List Text) → ArePlain words → AllByRecursion IsNoOption words
no_options [] h = tt
no_options (w ∷ rest) h = (no_option w (both _ _ h).0, no_options rest (both _ _ h).1)

-- the form that is found has the name
pub has_name : (name : Text) (some : List Form) (form : Form) → named name some ≡ Some form → form.name ≡ name
has_name name [] form h = let bad : None ≡ Some form = h in absurd cc
has_name name (x ∷ xs) form h = go (has_name name xs form) (bytes_eq x.name name) refl h
  where
    go : (named name xs ≡ Some form → form.name ≡ name) → (b : Bool) → bytes_eq x.name name ≡ b → cond b (Some x) (named name xs) ≡ Some form → form.name ≡ name
    go behind true is e =
        let same : x ≡ form = cc in
        subst (λ (f : Form). f.name ≡ name) same ((bytes_eq-Decides x.name name).0 is)
    go behind false is e = behind e

-- ---- the words are found, or there is a fault

pub record IsRead (words : List Text) : Type 0 where
  pub matched : IsMatched words (subcommand_of program words)
  pub passes : fault_of program words ≡ []

pub record IsRefused (words : List Text) : Type 0 where
  pub unmatched : IsUnmatched words
  pub fault : IsFaulty (fault_of program words)

unnamed : (w : Text) (rest : List Text) → named w forms ≡ None → IsUnmatched (w ∷ rest)
unnamed w rest none name values e taken =
    let same : w ≡ name = cc in
    subst (λ (found : Option Form). IsSomeAnd found (λ form. length values ≡ count_of form.values)) (subst (λ (n : Text). named n forms ≡ None) same none) taken

miscounted : (w : Text) (rest : List Text) (form : Form) → named w forms ≡ Some form → (length rest ≡ count_of form.values → ⊥) → IsUnmatched (w ∷ rest)
miscounted w rest form is other name values e taken =
    let same : w ≡ name = cc in
    let all : rest ≡ values = cc in
    let many : length values ≡ count_of form.values =
    subst (λ (found : Option Form). IsSomeAnd found (λ form. length values ≡ count_of form.values)) (subst (λ (n : Text). named n forms ≡ Some form) same is) taken in
    other (ap length all ∙ many)

reads_form : (w : Text) (rest : List Text) (form : Form) → named w forms ≡ Some form → IsPassed form.name form.values rest ⊎ IsStopped form.name form.values rest
    → IsRead (w ∷ rest) ⊎ IsRefused (w ∷ rest)
reads_form w rest form is (inl h) =
    let name = has_name w forms form is in
    inl (record {
      matched = record {
        name = w;
        values = rest;
        words_are = refl;
        taken = subst (λ (found : Option Form). IsSomeAnd found (λ form. length rest ≡ count_of form.values)) (sym is) h.many;
        met_is = enters_rows forms w form rest name is ∙ ap (λ rows. Some (form.name, rows)) h.rows ∙ ap (λ (n : Text). Some (n, given_rows rest)) name;
      };
      passes = enters_fault forms w form rest name is ∙ h.passes;
    })
reads_form w rest form is (inr h) =
    inr (record {
      unmatched = miscounted w rest form is h.other;
      fault = faulty _ _ (enters_fault forms w form rest (has_name w forms form is) is) h.fault;
    })

reads_first : (w : Text) (rest : List Text) → ArePlain (w ∷ rest) → (found : Option Form) → named w forms ≡ found → IsRead (w ∷ rest) ⊎ IsRefused (w ∷ rest)
reads_first w rest h None none =
    inr (record {
      unmatched = unnamed w rest none;
      fault = faulty _ _ (other_word forms w rest (no_option w (both _ _ h).0) none) tt;
    })
reads_first w rest h (Some form) is = reads_form w rest form is (judged form.name form.values rest (no_options rest (both _ _ h).1))

pub reads : (words : List Text) → ArePlain words → IsRead words ⊎ IsRefused words
reads [] h = inr (record { unmatched = λ name values e taken. absurd (nothing name values e); fault = faulty _ _ (no_word forms) tt })
  where
    nothing : (name : Text) (values : List Text) → [] ≡ name ∷ values → ⊥
    nothing name values e = cc
reads (w ∷ rest) h = reads_first w rest h (named w forms) refl

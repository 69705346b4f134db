-- What `clap` makes of the first word, whatever the forms of the commands.
use Rattle.std.proofs.Common.{◌≡◌, ◌∙◌, ◌&&◌, ◌||◌, Bool, cond, true, false, List, [], ◌∷◌, map, Option, Some, None, is_some, codes, refl, sym, ap, option_map}
use Rattle.std.specs.Option.{option_map_or}
use Rattle.std.specs.List.{find, fold}
use Rattle.std.specs.Str.{bytes_eq}
use Rattle.clap.specs.Walk.{Held, Names, Step, Text, Walk, after_step, answers_to, finished, idle, nothing_held, rows_after, settled, stop_after, subcommand_or_other, walk, walk_from, walked}
use Rattle.clap.specs.Simple.{App, Shape, built, entered, is_simple, label_of, names_of, rows_at, subcommand_of}
use Rattle.clap.specs.Kinds.{Kinds, or_else}
use Rattle.clap.specs.Faults.{built_fault, check_fault, defaults_fault, entered_fault, fault_of, is_simple_and_free, level_fault, other_fault, settle_fault, step_fault, turn_fault, walk_fault}
use Rattle.clap.specs.declared.error.kind.ErrorKind.TheVariants.{DisplayHelp, InvalidSubcommand, MissingSubcommand, UnknownArgument}
use Rattle.clap.proofs.FaultLemmas.{stopped_fault}
use Rattle.clap.proofs.WalkLemmas.{walk_stopped}
use Rattle.clap.proofs.OnLiterals.{clap_on_literals}
use Rattle.command_words.specs.Grammar.{Form, named, program, program_of, shape_of}
use Rattle.command_words.proofs.Leaves.{IsNoOption, built_in, fault_below, rows_below}

pub simple_and_free : is_simple_and_free program ≡ true
unfolding clap_on_literals
simple_and_free = refl

pub simple : is_simple program ≡ true
unfolding clap_on_literals
simple = refl

or_else_nothing : (kinds : Kinds) → or_else kinds [] ≡ kinds
or_else_nothing [] = refl
or_else_nothing (k ∷ ks) = refl

and_false : (b : Bool) → (b && false) ≡ false
and_false true = refl
and_false false = refl

-- ---- a program that is built, with any commands

abbrev top : Shape
top = (built (program_of [])).top

-- the walk once it has met the command of that name
abbrev met : Text → Walk
met name = record (walk_from nothing_held) { stopped = Some (name, []) }

module _ (subs : List Shape) where
  abbrev app : App
  app = record { top = top; subs = subs }

  abbrev names : Names
  names = map label_of subs

  -- one step of the walk, by what the word is found to be
  abbrev step_by : Text → Option (Text × List Text) → Held × Step
  step_by w found = subcommand_or_other top.rules (option_map (λ label. label.0) found) idle 1 w nothing_held

  first_step : (w : Text) → find (answers_to w) names ≡ Some (w, []) → walked top.rules names (walk_from nothing_held) w ≡ met w
  unfolding walked
  first_step w name = ap (λ (found : Option (Text × List Text)). after_step top.rules w (walk_from nothing_held) (step_by w found).0 (step_by w found).1) name

  walk_is : (w : Text) (rest : List Text) → find (answers_to w) names ≡ Some (w, []) → walk top.rules names nothing_held (w ∷ rest) ≡ record (walk_from nothing_held) { stopped = Some (w, rest) }
  walk_is w rest name =
      ap (λ (v : Walk). fold (walked top.rules names) v rest) (first_step w name) ∙ sym (walk_stopped top.rules names (walk_from nothing_held) w [] rest)

  first_turn : (w : Text) → find (answers_to w) names ≡ Some (w, []) → turn_fault top names (walk_from nothing_held) w ≡ []
  first_turn w name =
      ap (λ (found : Option (Text × List Text)). or_else (other_fault top (option_map (λ label. label.0) found) w nothing_held) (step_fault top 1 (step_by w found).0 (step_by w found).1)) name
      ∙ ap (λ (b : Bool). or_else (cond b (DisplayHelp ∷ InvalidSubcommand ∷ []) []) []) (and_false (bytes_eq w (codes "help")))

  no_walk_fault : (w : Text) (rest : List Text) → find (answers_to w) names ≡ Some (w, []) → walk_fault top names (walk_from nothing_held) (w ∷ rest) ≡ []
  unfolding walk_fault
  no_walk_fault w rest name =
      ap (λ (kinds : Kinds). or_else kinds (walk_fault top names (walked top.rules names (walk_from nothing_held) w) rest)) (first_turn w name)
      ∙ ap (λ (v : Walk). walk_fault top names v rest) (first_step w name) ∙ stopped_fault top names (walk_from nothing_held) (w, []) rest

  fault_in : (w : Text) (s : Shape) (rest : List Text) → find (answers_to w) names ≡ Some (w, []) → find (λ s. answers_to w (label_of s)) subs ≡ Some s
      → built_fault app nothing_held (w ∷ rest) ≡ level_fault s [] nothing_held rest false []
  unfolding defaults_fault
  fault_in w s rest name is =
      ap (λ (v : Walk). or_else (walk_fault top names (walk_from nothing_held) (w ∷ rest)) (or_else (entered_fault app v.stopped)
      (or_else (settle_fault top.rules top.args_override_self v.held) (or_else (defaults_fault (settled top.rules v.held).rows top.rules)
      (check_fault top (finished top.rules v.held) (is_some (entered app v.stopped))))))) (walk_is w rest name)
      ∙ ap (λ (kinds : Kinds). or_else kinds (or_else (entered_fault app (Some (w, rest)))
      (check_fault top [] (is_some (entered app (Some (w, rest))))))) (no_walk_fault w rest name)
      ∙ ap (λ (found : Option Shape). or_else (option_map_or (λ s. level_fault s [] nothing_held rest false []) found [])
      (check_fault top [] (is_some (option_map (λ s. rows_at s rest) found)))) is
      ∙ or_else_nothing _

  rows_in : (w : Text) (s : Shape) (rest : List Text) → find (answers_to w) names ≡ Some (w, []) → find (λ s. answers_to w (label_of s)) subs ≡ Some s
      → entered app (stop_after top.rules names (w ∷ rest)) ≡ Some (s.name, rows_after s.rules [] rest)
  rows_in w s rest name is = ap (λ (v : Walk). entered app v.stopped) (walk_is w rest name) ∙ ap (option_map (λ s. rows_at s rest)) is

  other_in : (w : Text) (rest : List Text) → IsNoOption w → find (answers_to w) names ≡ None
      → built_fault app nothing_held (w ∷ rest) ≡ UnknownArgument ∷ InvalidSubcommand ∷ []
  unfolding clap_on_literals
  other_in w rest h none = rw (none, h.no_dashes, h.not_long, h.not_short) refl

  no_word_in : built_fault app nothing_held [] ≡ MissingSubcommand ∷ []
  unfolding clap_on_literals
  no_word_in = refl

-- ---- the program of any forms

abbrev pub built_form : Form → Shape
built_form form = built_in (shape_of form)

abbrev subs_of : List Form → List Shape
subs_of forms = (built (program_of forms)).subs

found : (w : Text) (forms : List Form) → find (λ s. answers_to w (label_of s)) (subs_of forms) ≡ option_map built_form (named w forms)
found w [] = refl
found w (form ∷ forms) = go (bytes_eq form.name w) (found w forms)
  where
    go : (b : Bool) → find (λ s. answers_to w (label_of s)) (subs_of forms) ≡ option_map built_form (named w forms)
        → cond (b || false) (Some (built_form form)) (find (λ s. answers_to w (label_of s)) (subs_of forms)) ≡ option_map built_form (cond b (Some form) (named w forms))
    go true e = refl
    go false e = e

abbrev label_in : Form → Text × List Text
label_in form = (form.name, [])

found_name : (w : Text) (forms : List Form) → find (answers_to w) (names_of (built (program_of forms))) ≡ option_map label_in (named w forms)
found_name w [] = refl
found_name w (form ∷ forms) = go (bytes_eq form.name w) (found_name w forms)
  where
    go : (b : Bool) → find (answers_to w) (names_of (built (program_of forms))) ≡ option_map label_in (named w forms)
        → cond (b || false) (Some (label_in form)) (find (answers_to w) (names_of (built (program_of forms)))) ≡ option_map label_in (cond b (Some form) (named w forms))
    go true e = refl
    go false e = e

module _ (forms : List Form) where
  -- a command's name enters the command
  pub enters_fault : (w : Text) (form : Form) (rest : List Text) → form.name ≡ w → named w forms ≡ Some form
      → fault_of (program_of forms) (w ∷ rest) ≡ fault_below (shape_of form) rest
  enters_fault w form rest name is =
      fault_in (subs_of forms) w (built_form form) rest (found_name w forms ∙ rw (is, name) refl) (found w forms ∙ rw is refl)

  pub enters_rows : (w : Text) (form : Form) (rest : List Text) → form.name ≡ w → named w forms ≡ Some form
      → subcommand_of (program_of forms) (w ∷ rest) ≡ Some (form.name, rows_below (shape_of form) rest)
  enters_rows w form rest name is =
      rows_in (subs_of forms) w (built_form form) rest (found_name w forms ∙ rw (is, name) refl) (found w forms ∙ rw is refl)

  -- another word is refused
  pub other_word : (w : Text) (rest : List Text) → IsNoOption w → named w forms ≡ None
      → fault_of (program_of forms) (w ∷ rest) ≡ UnknownArgument ∷ InvalidSubcommand ∷ []
  other_word w rest h none = other_in (subs_of forms) w rest h (found_name w forms ∙ rw none refl)

  pub no_word : fault_of (program_of forms) [] ≡ MissingSubcommand ∷ []
  no_word = no_word_in (subs_of forms)

use Rattle.std.proofs.Common.{◌≡◌, ◌≢◌, ⊎_elim, map, string_bytes, List, ◌∷◌, [], ℕ, Result, Ok, Err, IfOk, IfErr, sym, subst, true}
use Rattle.clap.specs.Words.{App, FailsBy, HasMatchesOf, IsAmong, Kinds, kind_of, subcommand_rows_of}
use Rattle.clap.specs.Faults.{fault_of, is_simple_and_free}
use Rattle.clap.specs.declared.error.Error.{Error}
use Rattle.clap.specs.declared.error.kind.ErrorKind.{ErrorKind}
use Rattle.clap.specs.declared.error.kind.ErrorKind.TheVariants.{OutOfMemory}
use Rattle.clap.specs.declared.parser.matches.ArgMatches.{ArgMatches}
use Rattle.command_words.specs.Grammar.{IsMatched, IsUnmatched, program}
use Rattle.command_words.proofs.Leaves.{IsFaulty}
use Rattle.command_words.proofs.Entered.{simple, simple_and_free}
use Rattle.command_words.proofs.Matched.{ArePlain, faultless, reads}
use Rattle.command_words.proofs.grammar.matches_of.Goals as goal

faulty_by : (k : ErrorKind) (kinds : Kinds) → IsAmong k kinds → IsFaulty kinds
faulty_by k [] h = absurd h
faulty_by k (x ∷ xs) h = tt

matched : (words : List (List ℕ)) (r : Result ArgMatches Error) → ArePlain words → FailsBy (fault_of program words) r → IfOk r (HasMatchesOf program words) → IfOk r (λ m. IsMatched words (subcommand_rows_of m))
matched words (Err e) plain fails has = tt
matched words (Ok m) plain fails has =
    ⊎_elim (λ read. subst (IsMatched words) (sym (has simple).1) read.matched) (λ refused. absurd (faultless _ fails refused.fault)) (reads words plain)

fault : (words : List (List ℕ)) (r : Result ArgMatches Error) → ArePlain words → FailsBy (fault_of program words) r → IfErr r (λ e. kind_of e ≢ OutOfMemory → IsUnmatched words)
fault words (Ok m) plain fails = tt
fault words (Err e) plain fails =
    λ other. ⊎_elim (λ memory. absurd (other memory))
    (λ among. ⊎_elim (λ read. absurd (faultless _ read.passes (faulty_by (kind_of e) _ among))) (λ refused. refused.unmatched) (reads words plain)) fails

pub returns-clause-matched : goal.returns-clause-matched
returns-clause-matched c =
    let parse = c.try_get_matches_from in
    let words = map string_bytes c.args.words.now in
    let is = c.in_ok-program.ensures in
    let fails = subst (λ (a : App). is_simple_and_free a ≡ true → FailsBy (fault_of a words) parse.result) is parse.ensures.kinds simple_and_free in
    matched words parse.result c.requires fails (subst (λ (a : App). IfOk parse.result (HasMatchesOf a words)) is parse.ensures.matches)

pub returns-clause-fault : goal.returns-clause-fault
returns-clause-fault c =
    let parse = c.try_get_matches_from in
    let words = map string_bytes c.args.words.now in
    let is = c.in_ok-program.ensures in
    let fails = subst (λ (a : App). is_simple_and_free a ≡ true → FailsBy (fault_of a words) parse.result) is parse.ensures.kinds simple_and_free in
    fault words parse.result c.requires fails

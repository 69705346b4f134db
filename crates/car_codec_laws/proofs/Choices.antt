-- A dialect that is chosen is one of those on offer.
use Rattle.std.proofs.Common.{◌≡◌, ℕ, ◌+◌, ◌==◌, Bool, true, false, if◌then◌else◌, List, [], ◌∷◌, Contains, Option, Some, None, refl, sym, subst, arith}
use Rattle.std.proofs.lemmas.List.Elements.{Contains-append_right}
use Rattle.charge_world.specs.declared.offer.Dialect.{Dialect}
use Rattle.app_protocol.specs.declared.message.AppCode.TheVariants.{Failed}
use Rattle.app_protocol.specs.Messages.{ordinal_of}
use Rattle.car_codec.specs.Judging.{ChoosesOffered}
use Rattle.car_codec_rules.specs.Responding.{named_from, named_by, Responds}

first_is : {x y : Dialect} → Some x ≡ Some y → x ≡ y
first_is same = cc

first_or_rest : (b : Bool) (x : Dialect) (xs : List Dialect) (rest : Option Dialect) (d : Dialect) → (rest ≡ Some d → Contains xs d)
    → (if b then Some x else rest) ≡ Some d → Contains (x ∷ xs) d
first_or_rest true x xs rest d later is = subst (λ (y : Dialect). Contains (x ∷ xs) y) (first_is is) (0, omega arith, refl)
first_or_rest false x xs rest d later is = Contains-append_right (x ∷ []) xs d (later is)

named_offered : (place : ℕ) (ds : List Dialect) (schema : ℕ) (d : Dialect) → named_from place ds schema ≡ Some d → Contains ds d
named_offered place [] schema d is = absurd cc
named_offered place (x ∷ xs) schema d is =
    first_or_rest (schema == place) x xs (named_from (place + 1) xs schema) d (named_offered (place + 1) xs schema d) is

named_if_offered : (ds : List Dialect) (schema : Option ℕ) (d : Dialect) → named_by ds schema ≡ Some d → Contains ds d
named_if_offered ds None d is = absurd cc
named_if_offered ds (Some schema) d is = named_offered 1 ds schema d is

unless_failed : (b : Bool) (rest : Option Dialect) (d : Dialect) → (if b then None else rest) ≡ Some d → rest ≡ Some d
unless_failed true rest d is = absurd cc
unless_failed false rest d is = is

pub chooses_offered : ChoosesOffered Responds
chooses_offered ds payload d is =
    named_if_offered ds is.response.schema d
    (unless_failed (is.response.code == ordinal_of Failed) (named_by ds is.response.schema) d (sym is.chosen_is))

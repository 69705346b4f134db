-- Own: when a plan is within its rules. What a field's type bounds already isn't said again.
use Rattle.std.specs.Prelude.{◌≡◌, ℕ, ◌<◌, ◌≤◌, List, [], ◌∷◌, length, All, Contains, IsSome, IfSome}
use Rattle.charge_world.specs.declared.offer.Dialect.{Dialect}
use Rattle.charge_world.specs.declared.offer.Dialect.TheVariants.{Iso, Din}
use Rattle.session_words.specs.declared.mode.Mode.{Mode}
use Rattle.session_words.specs.declared.plan.SitePlan.{SitePlan}
use Rattle.session_words.specs.declared.plan.PostPlan.{PostPlan}
use Rattle.session_words.specs.declared.plan.CarPlan.{CarPlan}
use Rattle.session_words.specs.Modes.{CanSpeakDin}

-- at least one dialect, each at most once
abbrev pub IsOfferOnce : List Dialect → Type 0
IsOfferOnce [] = ⊥
IsOfferOnce (Iso ∷ []) = Unit {0}
IsOfferOnce (Din ∷ []) = Unit {0}
IsOfferOnce (Iso ∷ Din ∷ []) = Unit {0}
IsOfferOnce (Din ∷ Iso ∷ []) = Unit {0}
IsOfferOnce (Iso ∷ Iso ∷ rest) = ⊥
IsOfferOnce (Din ∷ Din ∷ rest) = ⊥
IsOfferOnce (Iso ∷ Din ∷ third ∷ rest) = ⊥
IsOfferOnce (Din ∷ Iso ∷ third ∷ rest) = ⊥

-- dialects that go with the mode
pub record IsOffer (mode : Mode) (dialects : List Dialect) : Type 0 where
  pub once : IsOfferOnce dialects
  pub din : Contains dialects Din → CanSpeakDin mode

-- from least to most, both ends included
abbrev pub IsWithin : ℕ → ℕ → ℕ → Type 0
IsWithin least most n = (least ≤ n) × (n ≤ most)

pub record IsPostPlan (post : PostPlan) : Type 0 where
  pub tcp : 1 ≤ post.tcp
  pub dialects : IsOffer post.mode post.dialects.items
  pub evse_id_ascii : All (λ c. c < 128) post.evse_id
  pub evse_id : IsWithin 7 37 (length post.evse_id)
  pub evse_id_din : IsWithin 1 32 (length post.evse_id_din.items)
  pub max_watts : IsWithin 1 1000000 post.max_watts
  pub nominal : IsWithin 1 1000 post.nominal

pub record IsSitePlan (site : SitePlan) : Type 0 where
  pub limit : IsWithin 1 8000000 site.limit
  pub turns : IsWithin 1 4294967296 site.turns
  pub sessions : IsWithin 1 1000000 site.sessions
  pub posts : IsWithin 1 8 (length site.post.items)
  pub each : All IsPostPlan site.post.items

pub record IsCarPlan (car : CarPlan) : Type 0 where
  pub tcp_there : car.sdp ≡ 0 → IsSome car.tcp
  pub tcp : IfSome car.tcp (λ port. 1 ≤ port)
  pub turns : IsWithin 1 4294967296 car.turns
  pub dialects : IsOffer car.mode car.dialects.items
  pub soc : car.soc ≤ 100
  pub max_watts : IsWithin 1 1000000 car.max_watts
  pub cycles : IsWithin 1 10000 car.cycles
  pub welding : car.welding ≤ 10
  pub pace : IsWithin 100 1000 car.pace

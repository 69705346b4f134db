-- IEC 61851-1 and IEC 61851-23; ISO 15118-2:2014, section 8.8: what is kept of the contactor of a post, off a past alone. Pasts have their
-- newest entry first.
use Rattle.std.specs.Prelude.{◌≡◌, ℕ, Bool, true, false, List, []}
use Rattle.std.specs.List.{list_any}
use Rattle.charge_world.specs.declared.entry.Entry.{Entry}
use Rattle.post_spec.specs.Contactors.{contactor_acts, standing, live, closed}
use Rattle.post_spec.specs.Steps.{Seen, seen}
use Rattle.told_pasts.specs.Checks.{is_act_of, in_block, before_block, opened_in_vain, ends_opened}
use Rattle.audit_contactors.specs.declared.values.ContactorValues.{ContactorValues}

-- the values of a post that saw this; that had seen this before the newest hearing; that did something since, or didn't; and that was
-- ordered open at the end, or wasn't
pub record Keeps (now before : List Seen) (acted ends : Bool) (v : ContactorValues) : Type 0 where
  pub stands : v.standing ≡ standing now
  pub live_is : v.live ≡ live now
  pub closed_is : v.closed ≡ closed now
  pub in_vain : v.opened_in_vain ≡ opened_in_vain (contactor_acts now)
  pub stood_is : v.stood ≡ standing before
  pub acted_is : v.acted ≡ acted
  pub ends_is : v.ends_opened ≡ ends

-- those of post k behind a past
abbrev pub AreOf : ℕ → List Entry → ContactorValues → Type 0
AreOf k past v = Keeps (seen k past) (seen k (before_block past)) (list_any (is_act_of k) (in_block past)) (ends_opened k past) v

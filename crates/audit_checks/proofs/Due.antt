-- A check fails at no entry but those at which it may.
use Rattle.std.proofs.Common.{◌≡◌, inl, inr, ℕ, ◌==◌, Bool, true, false, List, ◌∷◌, refl, sym, ap, subst, ◌∙◌}
use Rattle.std.specs.Prelude.{◌&&◌, ◌||◌, not, IsTrue}
use Rattle.charge_world.specs.declared.entry.Entry.{Entry}
use Rattle.charge_world.specs.declared.entry.Entry.TheVariants as entry
use Rattle.session_words.specs.declared.plan.SitePlan.{SitePlan}
use Rattle.told_pasts.specs.Checks.{is_heard, is_act_of, opens, AnswersOrHears, IsNewest, EndsBlock, PassesLimit}
use Rattle.told_pasts.specs.Spelling.{ToldCodecs}
use Rattle.audit_checks.specs.declared.checks.Check.{Check}
use Rattle.audit_checks.specs.declared.checks.Check.TheVariants as check
use Rattle.audit_checks.specs.Checks.{FailsOf}
use Rattle.audit_checks.specs.Due.{closes, sends, acts, may_fail, IsDue}

or_first : (a b : Bool) → a ≡ true → (a || b) ≡ true
or_first true b h = refl
or_first false b h = absurd (let x : false ≡ true = h in cc)

or_second : (a b : Bool) → b ≡ true → (a || b) ≡ true
or_second true b h = refl
or_second false b h = h

answers : (k : ℕ) (e : Entry) → AnswersOrHears k e → (sends e || is_heard e) ≡ true
answers k (entry.Heard heard bytes) h = refl
answers k entry.Lost h = absurd h
answers k (entry.Sent post bytes taken) h = refl
answers k (entry.Answered post bytes taken) h = absurd h
answers k (entry.Drove post given taken) h = absurd h
answers k (entry.Dialed port taken) h = absurd h
answers k (entry.Ended post cause) h = absurd h

act : (k : ℕ) (e : Entry) → is_act_of k e ≡ true → acts e ≡ true
act k (entry.Heard heard bytes) h = absurd (let x : false ≡ true = h in cc)
act k entry.Lost h = absurd (let x : false ≡ true = h in cc)
act k (entry.Sent post bytes taken) h = refl
act k (entry.Answered post bytes taken) h = refl
act k (entry.Drove post given taken) h = refl
act k (entry.Dialed port taken) h = absurd (let x : false ≡ true = h in cc)
act k (entry.Ended post cause) h = refl

acts_shut : (k : ℕ) (e : Entry) → is_act_of k e ≡ true → opens e ≡ false → (acts e && not (opens e)) ≡ true
acts_shut k e is shut = rw (act k e is, shut) refl

due : (c : ToldCodecs) (x : Check) (e : Entry) (ends last above : Bool) → IsDue c x e ends last above (may_fail x e ends last above)
due c check.ClosesUnmandated e ends last above site earlier behind k h i j f = ap closes f.0.entry_is
due c check.FailsLive e ends last above site earlier behind k h i j f = ap sends f.0.entry_is
due c check.PassesCause e ends last above site earlier behind k h i j f = elim f.0.passes [
  | inl (hears, owes) ↦ or_second last (sends e || is_heard e) (answers f.0.k e hears)
  | inr (newest, owes, alone) ↦ or_first last (sends e || is_heard e) (i newest)
]
due c check.ForgetsOpen e ends last above site earlier behind k h i j f = elim f.0.forgets [
  | inl (is, shut, begun, unacted, failed) ↦ or_second ends (acts e && not (opens e)) (acts_shut f.0.k e is shut)
  | inr (block, unacted, failed) ↦ or_first ends (acts e && not (opens e)) (h block)
]
due c check.StaysClosed e ends last above site earlier behind k h i j f = h f.0.ends
due c check.PassesLimit e ends last above site earlier behind k h i j f = j f
due c check.SpellsOthers e ends last above site earlier behind k h i j f = ap sends f.0.entry_is
due c check.EndsLive e ends last above site earlier behind k h i j f = i f.0.newest
due c check.AnswersNothing e ends last above site earlier behind k h i j f = ap sends f.0.entry_is
due c check.LeavesWord e ends last above site earlier behind k h i j f = h f.0.ends

pub is_due : (c : ToldCodecs) (x : Check) (e : Entry) (ends last above may : Bool) → may ≡ may_fail x e ends last above → IsDue c x e ends last above may
is_due c x e ends last above may is = subst (IsDue c x e ends last above) (sym is) (due c x e ends last above)

-- The voltage that a charger gives and tells, as it tells something and as it is ordered limits.
use Rattle.std.proofs.Common.{◌≡◌, ℕ, zero, suc, ◌+◌, ◌*◌, ◌^◌, ◌-◌, ◌<◌, ◌≤◌, nat_le, nat_lt, min, max, Bool, true, false, if◌then◌else◌, List, Option, Some, None, refl, ap, sym, subst, ◌∙◌, ◌⊎◌, inl, inr, arith}
use Rattle.std.proofs.lemmas.Bool.Decides.{nat_tests}
use Rattle.std.specs.Prelude.{slice_get, slice_set}
use Rattle.charge_world.specs.declared.heard.IsolationLevel.TheVariants as isolation
use Rattle.charge_world.specs.declared.heard.PilotState.TheVariants as pilot
use Rattle.charge_world.specs.declared.heard.PlantEvent.{PlantEvent}
use Rattle.charge_world.specs.declared.heard.PlantEvent.TheVariants as plant
use Rattle.charge_world.specs.declared.ports.Order.TheVariants as order
use Rattle.session_words.specs.declared.facts.Facts.{Facts}
use Rattle.plant_sim.specs.Charger.{Charger, later, ordered, towards, moved, events, measured, IsFirst, Comes, NoneReached}
use Rattle.station_spec.specs.Hearing.{charger_facts}
use Rattle.car_rules.specs.declared.stage.CarPhase.TheVariants as phase
use Rattle.car_spec.specs.States.{Session}
use Rattle.pipe_facts.proofs.Moments.{other_place, same_place, apart}
use Rattle.matched_pairs.specs.Voltages.{volts_behind, IsInPhase}

false_true : false ≡ true → ⊥
false_true e = cc

some_event : (a b : PlantEvent) → Some a ≡ Some b → a ≡ b
some_event a b e = cc

none_event : (e : PlantEvent) → None ≡ Some e → ⊥
none_event e h = cc

some_moment : (o : Option (Option ℕ)) (m n : ℕ) → o ≡ Some (Some m) → o ≡ Some (Some n) → m ≡ n
some_moment o m n e f = cc

no_moment : (o : Option (Option ℕ)) (m : ℕ) → o ≡ Some (Some m) → o ≡ Some None → ⊥
no_moment o m e f = cc

waits_not : (z x : Session) (again : ℕ) → Some z ≡ Some x → z.again ≡ Some again → x.again ≡ None → ⊥
waits_not z x again e a n = cc

-- ---- what is so of it

pub record Gives (target n : ℕ) (s : Charger) (f : Facts) : Type 0 where
  pub gives : s.voltage ≡ volts_behind target n
  pub tells : f.voltage ≡ s.voltage

-- its newest measurement is to come at that moment
pub record IsDue (target given at : ℕ) (s : Charger) (f : Facts) : Type 0 where
  pub before : ℕ
  pub given_is : given ≡ suc before
  pub to_come : slice_get s.moments 4 ≡ Some (Some at)
  pub ordered : s.limits.voltage ≡ target
  pub gives : Gives target before s f

-- the next order comes behind that: the moment is reached, or the car waits longer to ask once more
pub data IsBeyond (at now : ℕ) (y : Option Session) : Type 0 where
  IsReached : at ≤ now → IsBeyond at now y
  WaitsOn : (x : Session) → y ≡ Some x → (again : ℕ) → x.again ≡ Some again → at ≤ again → IsBeyond at now y

-- `raised`: limits were ordered since the car read last
pub data Rising (target now given : ℕ) (raised : Bool) (y : Option Session) (s : Charger) (f : Facts) : Type 0 where
  Steady : raised ≡ false → slice_get s.moments 4 ≡ Some None → Gives target given s f → Rising target now given raised y s f
  IsRaised : raised ≡ true → IsDue target given (now + 20) s f → IsInPhase phase.PreCharging y → Rising target now given raised y s f
  IsSoon : raised ≡ false → (at : ℕ) → at ≤ now + 20 → IsDue target given at s f → IsBeyond at now y → Rising target now given raised y s f

-- and no event of an opened contactor is to come (place 7). `told`: the newest turn brought bytes to an end
pub record Volts (target now given : ℕ) (raised told : Bool) (y : Option Session) (s : Charger) (f : Facts) : Type 0 where
  pub rising : Rising target now given raised y s f
  pub falls : slice_get s.moments 7 ≡ Some None
  pub late : told ≡ true → (at : ℕ) → slice_get s.moments 4 ≡ Some (Some at) → now < at

-- ---- it tells something

data IsToldAt (p v i : ℕ) (event : PlantEvent) : Type 0 where
  Elsewhere : (p ≡ 4 → ⊥) → (p ≡ 7 → ⊥) → ((f : Facts) → (charger_facts event f).voltage ≡ f.voltage) → ((b : ℕ) → measured event b ≡ b) → IsToldAt p v i event
  Raises : p ≡ 4 → event ≡ plant.Measured v i → IsToldAt p v i event
  Falls : p ≡ 7 → IsToldAt p v i event

not_there : (p n k : ℕ) → p ≡ n → (n < k) ⊎ (k < n) → p ≡ k → ⊥
not_there p n k e (inl l) f = omega (arith, e, l, f)
not_there p n k e (inr l) f = omega (arith, e, l, f)

told_at : (p place v i : ℕ) (event : PlantEvent) → place ≡ p → slice_get (events v i) p ≡ Some event → IsToldAt place v i event
told_at zero place v i event e h = subst (λ (x : PlantEvent). IsToldAt place v i x) (some_event (plant.Pilot pilot.C) event h)
    (Elsewhere (not_there place 0 4 e (inl (omega arith))) (not_there place 0 7 e (inl (omega arith))) (λ f. refl) (λ b. refl))
told_at (suc zero) place v i event e h = subst (λ (x : PlantEvent). IsToldAt place v i x) (some_event (plant.Isolation isolation.Invalid) event h)
    (Elsewhere (not_there place 1 4 e (inl (omega arith))) (not_there place 1 7 e (inl (omega arith))) (λ f. refl) (λ b. refl))
told_at (suc (suc zero)) place v i event e h = subst (λ (x : PlantEvent). IsToldAt place v i x) (some_event plant.Paid event h)
    (Elsewhere (not_there place 2 4 e (inl (omega arith))) (not_there place 2 7 e (inl (omega arith))) (λ f. refl) (λ b. refl))
told_at (suc (suc (suc zero))) place v i event e h = subst (λ (x : PlantEvent). IsToldAt place v i x) (some_event (plant.Isolation isolation.Valid) event h)
    (Elsewhere (not_there place 3 4 e (inl (omega arith))) (not_there place 3 7 e (inl (omega arith))) (λ f. refl) (λ b. refl))
told_at (suc (suc (suc (suc zero)))) place v i event e h = Raises e (sym (some_event (plant.Measured v i) event h))
told_at (suc (suc (suc (suc (suc zero))))) place v i event e h = subst (λ (x : PlantEvent). IsToldAt place v i x) (some_event (plant.Feedback true) event h)
    (Elsewhere (not_there place 5 4 e (inr (omega arith))) (not_there place 5 7 e (inl (omega arith))) (λ f. refl) (λ b. refl))
told_at (suc (suc (suc (suc (suc (suc zero)))))) place v i event e h = subst (λ (x : PlantEvent). IsToldAt place v i x) (some_event (plant.Feedback false) event h)
    (Elsewhere (not_there place 6 4 e (inr (omega arith))) (not_there place 6 7 e (inl (omega arith))) (λ f. refl) (λ b. refl))
told_at (suc (suc (suc (suc (suc (suc (suc zero))))))) place v i event e h = Falls e
told_at (suc (suc (suc (suc (suc (suc (suc (suc n)))))))) place v i event e h = absurd (none_event event h)

elsewhere : (old after : Charger) (p k : ℕ) → after.moments ≡ slice_set old.moments p None → (p ≡ k → ⊥) → slice_get after.moments k ≡ slice_get old.moments k
elsewhere old after p k e n = ap (λ (ms : List (Option ℕ)). slice_get ms k) e ∙ other_place old.moments p k None n

here : (old after : Charger) (p k m : ℕ) → p ≡ k → after.moments ≡ slice_set old.moments p None → slice_get old.moments p ≡ Some (Some m) → slice_get after.moments k ≡ Some None
here old after p k m e moments h =
    ap (λ (n : ℕ). slice_get after.moments n) (sym e) ∙ ap (λ (ms : List (Option ℕ)). slice_get ms p) moments ∙ same_place old.moments p None (Some m) h

-- nothing of this changes
pub record SameVolts (a b : Charger) (f g : Facts) : Type 0 where
  pub four : slice_get b.moments 4 ≡ slice_get a.moments 4
  pub seven : slice_get b.moments 7 ≡ slice_get a.moments 7
  pub ordered : b.limits.voltage ≡ a.limits.voltage
  pub gives : b.voltage ≡ a.voltage
  pub tells : g.voltage ≡ f.voltage

same_gives : (target n : ℕ) (a b : Charger) (f g : Facts) → SameVolts a b f g → Gives target n a f → Gives target n b g
same_gives target n a b f g s k = record { gives = s.gives ∙ k.gives; tells = s.tells ∙ k.tells ∙ sym s.gives }

same_due : (target given at : ℕ) (a b : Charger) (f g : Facts) → SameVolts a b f g → IsDue target given at a f → IsDue target given at b g
same_due target given at a b f g s k = record {
  before = k.before;
  given_is = k.given_is;
  to_come = s.four ∙ k.to_come;
  ordered = s.ordered ∙ k.ordered;
  gives = same_gives target k.before a b f g s k.gives;
}

same_rising : (target now given : ℕ) (raised : Bool) (y : Option Session) (a b : Charger) (f g : Facts) → SameVolts a b f g → Rising target now given raised y a f → Rising target now given raised y b g
same_rising target now given raised y a b f g s (Steady r n k) = Steady r (s.four ∙ n) (same_gives target given a b f g s k)
same_rising target now given raised y a b f g s (IsRaised r d p) = IsRaised r (same_due target given (now + 20) a b f g s d) p
same_rising target now given raised y a b f g s (IsSoon r at l d k) = IsSoon r at l (same_due target given at a b f g s d) k

pub same_volts : (target now given : ℕ) (raised told : Bool) (y : Option Session) (a b : Charger) (f g : Facts) → SameVolts a b f g → Volts target now given raised told y a f → Volts target now given raised told y b g
same_volts target now given raised told y a b f g s k = record {
  rising = same_rising target now given raised y a b f g s k.rising;
  falls = s.seven ∙ k.falls;
  late = λ e at m. k.late e at (sym s.four ∙ m);
}

untold : (target now given : ℕ) (raised told : Bool) (y : Option Session) (s : Charger) (f : Facts) → Volts target now given raised told y s f → Volts target now given raised false y s f
untold target now given raised told y s f k = record { rising = k.rising; falls = k.falls; late = λ e. absurd (false_true e) }

-- it comes 100.0 V nearer
nearer : (b : Bool) (from to : ℕ) → nat_le from to ≡ b → from ≤ to → (if b then min to (from + 1000) else max to (from - 1000)) ≡ min to (from + 1000)
nearer true from to e l = refl
nearer false from to e l = absurd (grind (arith, nat_tests))

one_more : (target n : ℕ) → min target (min target (1000 * n) + 1000) ≡ min target (1000 * suc n)
one_more target n = omega arith

within : (target n : ℕ) → min target (1000 * n) ≤ target
within target n = omega arith

towards_is : (target n : ℕ) → towards (volts_behind target n) target ≡ volts_behind target (suc n)
towards_is target n = nearer (nat_le (volts_behind target n) target) (volts_behind target n) target refl (within target n) ∙ one_more target n

moved_is : (target n : ℕ) (s : Charger) (f : Facts) → Gives target n s f → s.limits.voltage ≡ target → moved s ≡ volts_behind target (suc n)
moved_is target n s f k e = ap (λ (v : ℕ). towards v s.limits.voltage) k.gives ∙ ap (λ (v : ℕ). towards (volts_behind target n) v) e ∙ towards_is target n

not_yet : (m now : ℕ) → m ≡ now + 20 → m ≤ now → ⊥
not_yet m now e l = omega (arith, e, l)

four_is : (old : Charger) (place m : ℕ) → place ≡ 4 → slice_get old.moments place ≡ Some (Some m) → slice_get old.moments 4 ≡ Some (Some m)
four_is old place m e h = ap (λ (n : ℕ). slice_get old.moments n) (sym e) ∙ h

raises : (target now given : ℕ) (raised : Bool) (y : Option Session) (old after : Charger) (event : PlantEvent) (f : Facts) (place m i : ℕ) → place ≡ 4 → event ≡ plant.Measured (moved old) i
    → slice_get old.moments place ≡ Some (Some m) → m ≤ now → after.moments ≡ slice_set old.moments place None → after.voltage ≡ measured event old.voltage → Rising target now given raised y old f
    → Rising target now given raised y after (charger_facts event f)
raises target now given raised y old after event f place m i e is come reached moments volts (Steady r n k) = absurd (no_moment (slice_get old.moments 4) m (four_is old place m e come) n)
raises target now given raised y old after event f place m i e is come reached moments volts (IsRaised r d p) =
    absurd (not_yet m now (some_moment (slice_get old.moments 4) m (now + 20) (four_is old place m e come) d.to_come) reached)
raises target now given raised y old after event f place m i e is come reached moments volts (IsSoon r at l d k) =
    Steady r (here old after place 4 m e moments come)
    (record {
      gives = volts ∙ ap (λ (x : PlantEvent). measured x old.voltage) is ∙ moved_is target d.before old f d.gives d.ordered ∙ ap (volts_behind target) (sym d.given_is);
      tells = ap (λ (x : PlantEvent). (charger_facts x f).voltage) is ∙ sym (volts ∙ ap (λ (x : PlantEvent). measured x old.voltage) is);
    })

tells_by : (target now given : ℕ) (raised told : Bool) (y : Option Session) (old after : Charger) (event : PlantEvent) (f : Facts) (x : Comes old now event after) → IsToldAt x.place (moved old) x.event.0 event
    → after.moments ≡ slice_set old.moments x.place None → after.voltage ≡ measured event old.voltage → after.limits ≡ old.limits → Volts target now given raised told y old f
    → Volts target now given raised false y after (charger_facts event f)
tells_by target now given raised told y old after event f x (Elsewhere four seven facts same) moments volts limits k =
    same_volts target now given raised false y old after f (charger_facts event f)
    (record {
      four = elsewhere old after x.place 4 moments four;
      seven = elsewhere old after x.place 7 moments seven;
      ordered = ap (λ l. l.voltage) limits;
      gives = volts ∙ same old.voltage;
      tells = facts f;
    })
    (untold target now given raised told y old f k)
tells_by target now given raised told y old after event f x (Raises e is) moments volts limits k =
    let i : IsFirst old.moments x.place x.moment = x.first in
    record {
      rising = raises target now given raised y old after event f x.place x.moment x.event.0 e is i.to_come x.reached moments volts k.rising;
      falls = elsewhere old after x.place 7 moments (λ n. omega (arith, e, n)) ∙ k.falls;
      late = λ n. absurd (false_true n);
    }
tells_by target now given raised told y old after event f x (Falls e) moments volts limits k =
    let i : IsFirst old.moments x.place x.moment = x.first in
    absurd (no_moment (slice_get old.moments 7) x.moment (ap (λ (n : ℕ). slice_get old.moments n) (sym e) ∙ i.to_come) k.falls)

pub tells : (target now given : ℕ) (raised told : Bool) (y : Option Session) (old after : Charger) (event : PlantEvent) (f : Facts) → Comes old now event after → Volts target now given raised told y old f
    → Volts target now given raised false y after (charger_facts event f)
tells target now given raised told y old after event f x k =
    tells_by target now given raised told y old after event f x (told_at x.place x.place (moved old) x.event.0 event refl x.event.2) (ap (λ (c : Charger). c.moments) x.after)
    (ap (λ (c : Charger). c.voltage) x.after) (ap (λ (c : Charger). c.limits) x.after) k

-- ---- it is ordered limits

soon_enough : (now : ℕ) → now ≤ 42949672960 → nat_lt (now + 20) (2 ^ 64) ≡ true
soon_enough now l = grind (arith, nat_tests)

later_if : (b : Bool) (n : ℕ) → b ≡ true → (if b then Some n else None) ≡ Some n
later_if true n e = refl
later_if false n e = absurd (false_true e)

later_is : (now : ℕ) → now ≤ 42949672960 → later now 20 ≡ Some (now + 20)
later_is now l = later_if (nat_lt (now + 20) (2 ^ 64)) (now + 20) (soon_enough now l)

some_place : (ms : List (Option ℕ)) (at : Option ℕ) (now : ℕ) → slice_get ms 4 ≡ Some at → later now 20 ≡ Some (now + 20) → slice_get (slice_set ms 4 (later now 20)) 4 ≡ Some (Some (now + 20))
some_place ms at now e l = same_place ms 4 (later now 20) at e ∙ ap (λ (o : Option ℕ). Some o) l

is_later : (now at : ℕ) → at ≡ now + 20 → now < at
is_later now at e = omega (arith, e)

pub orders : (target now given : ℕ) (told : Bool) (y : Option Session) (old after : Charger) (f g : Facts) (i w : ℕ) → now ≤ 42949672960 → after ≡ ordered old (order.Limits target i w) now → g.voltage ≡ f.voltage
    → IsInPhase phase.PreCharging y → slice_get old.moments 4 ≡ Some None → Gives target given old f → slice_get old.moments 7 ≡ Some None → Volts target now (suc given) true told y after g
orders target now given told y old after f g i w small e same p none k seven =
    let four : slice_get after.moments 4 ≡ Some (Some (now + 20)) = ap (λ (s : Charger). slice_get s.moments 4) e ∙ some_place old.moments None now none (later_is now small) in
    record {
      rising = IsRaised refl (record {
        before = given;
        given_is = refl;
        to_come = four;
        ordered = ap (λ (s : Charger). s.limits.voltage) e;
        gives = record { gives = ap (λ (s : Charger). s.voltage) e ∙ k.gives; tells = same ∙ k.tells ∙ sym (ap (λ (s : Charger). s.voltage) e) };
      }) p;
      falls = ap (λ (s : Charger). slice_get s.moments 7) e ∙ other_place old.moments 4 7 (later now 20) (apart 4 7 (omega arith)) ∙ seven;
      late = λ t at m. is_later now at (some_moment (slice_get after.moments 4) at (now + 20) m four);
    }

-- ---- the car's session changes, or time passes

later_too : (at now behind : ℕ) → at ≤ now + 20 → now ≤ behind → at ≤ behind + 20
later_too at now behind l m = omega (arith, l, m)

moves_rising : (target now behind given : ℕ) (raised : Bool) (y z : Option Session) (s : Charger) (f : Facts) → now ≤ behind → (raised ≡ true → now ≡ behind)
    → (IsInPhase phase.PreCharging y → IsInPhase phase.PreCharging z) → ((at : ℕ) → IsBeyond at now y → IsBeyond at behind z) → Rising target now given raised y s f → Rising target behind given raised z s f
moves_rising target now behind given raised y z s f l same ph beyond (Steady r n k) = Steady r n k
moves_rising target now behind given raised y z s f l same ph beyond (IsRaised r d p) = IsRaised r (subst (λ (t : ℕ). IsDue target given (t + 20) s f) (same r) d) (ph p)
moves_rising target now behind given raised y z s f l same ph beyond (IsSoon r at m d k) = IsSoon r at (later_too at now behind m l) d (beyond at k)

pub moves_volts : (target now behind given : ℕ) (raised told later : Bool) (y z : Option Session) (s : Charger) (f : Facts) → now ≤ behind → (raised ≡ true → now ≡ behind)
    → (IsInPhase phase.PreCharging y → IsInPhase phase.PreCharging z) → ((at : ℕ) → IsBeyond at now y → IsBeyond at behind z)
    → (later ≡ true → (at : ℕ) → slice_get s.moments 4 ≡ Some (Some at) → behind < at) → Volts target now given raised told y s f → Volts target behind given raised later z s f
moves_volts target now behind given raised told later y z s f l same ph beyond late k =
    record { rising = moves_rising target now behind given raised y z s f l same ph beyond k.rising; falls = k.falls; late = late }

-- the car reads
same_twenty : (now : ℕ) → now + 20 ≤ now + 20
same_twenty now = omega arith

reads_rising : (target now given : ℕ) (raised : Bool) (y z : Option Session) (s : Charger) (f : Facts) → (IsInPhase phase.PreCharging y → IsBeyond (now + 20) now z)
    → ((at : ℕ) → IsBeyond at now y → IsBeyond at now z) → Rising target now given raised y s f → Rising target now given false z s f
reads_rising target now given raised y z s f fresh beyond (Steady r n k) = Steady refl n k
reads_rising target now given raised y z s f fresh beyond (IsRaised r d p) = IsSoon refl (now + 20) (same_twenty now) d (fresh p)
reads_rising target now given raised y z s f fresh beyond (IsSoon r at l d k) = IsSoon refl at l d (beyond at k)

pub reads_volts : (target now given : ℕ) (raised told : Bool) (y z : Option Session) (s : Charger) (f : Facts) → (IsInPhase phase.PreCharging y → IsBeyond (now + 20) now z)
    → ((at : ℕ) → IsBeyond at now y → IsBeyond at now z) → Volts target now given raised told y s f → Volts target now given false told z s f
reads_volts target now given raised told y z s f fresh beyond k = record { rising = reads_rising target now given raised y z s f fresh beyond k.rising; falls = k.falls; late = k.late }

-- ---- where the post reads a request that isn't the one behind its newest order, nothing is due

pub record IsSteady (target given : ℕ) (s : Charger) (f : Facts) : Type 0 where
  pub none : slice_get s.moments 4 ≡ Some None
  pub gives : Gives target given s f

beyond_not : (at now : ℕ) (y : Option Session) (x : Session) → y ≡ Some x → x.again ≡ None → now < at → IsBeyond at now y → ⊥
beyond_not at now y x e n l (IsReached r) = omega (arith, l, r)
beyond_not at now y x e n l (WaitsOn z i again a w) = waits_not z x again (sym i ∙ e) a n

steady_by : (target now given : ℕ) (raised : Bool) (y : Option Session) (x : Session) (s : Charger) (f : Facts) → raised ≡ false → y ≡ Some x → x.again ≡ None
    → ((at : ℕ) → slice_get s.moments 4 ≡ Some (Some at) → now < at) → Rising target now given raised y s f → IsSteady target given s f
steady_by target now given raised y x s f e i n late (Steady r none k) = record { none = none; gives = k }
steady_by target now given raised y x s f e i n late (IsRaised r d p) = absurd (false_true (sym e ∙ r))
steady_by target now given raised y x s f e i n late (IsSoon r at l d k) = absurd (beyond_not at now y x i n (late at d.to_come) k)

pub steady : (target now given : ℕ) (raised told : Bool) (y : Option Session) (x : Session) (s : Charger) (f : Facts) → raised ≡ false → told ≡ true → y ≡ Some x → x.again ≡ None
    → Volts target now given raised told y s f → IsSteady target given s f
steady target now given raised told y x s f e t i n k = steady_by target now given raised y x s f e i n (k.late t) k.rising

-- ---- bytes are heard

pub heard_out : (target now given : ℕ) (raised told : Bool) (y : Option Session) (s : Charger) (f : Facts) → NoneReached s.moments now → Volts target now given raised told y s f → Volts target now given raised true y s f
heard_out target now given raised told y s f n k = record { rising = k.rising; falls = k.falls; late = λ e at m. n 4 at m }

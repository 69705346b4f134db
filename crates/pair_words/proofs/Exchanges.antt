-- Every exchange goes well, phase by phase.
use Rattle.std.proofs.Common.{◌≡◌, ℕ, Bool, true, false, Option, refl, sym, subst, ◌∙◌, ◌⊎◌, inl, inr}
use Rattle.charge_world.specs.declared.offer.Dialect.{Dialect}
use Rattle.session_words.specs.declared.phase.Phase.{Phase}
use Rattle.session_words.specs.declared.phase.Phase.TheVariants as row
use Rattle.session_words.specs.declared.plan.CarPlan.{CarPlan}
use Rattle.session_words.specs.declared.plan.PostPlan.{PostPlan}
use Rattle.session_words.specs.declared.session.SessionId.{SessionId}
use Rattle.session_rules.specs.declared.stage.PreCharged.{PreCharged}
use Rattle.session_rules.specs.Finishing.{is_ac}
use Rattle.car_rules.specs.declared.stage.CarPhase.{CarPhase}
use Rattle.car_rules.specs.declared.stage.CarPhase.TheVariants as phase
use Rattle.pair_words.specs.Exchanges.{Both, Outside}
use Rattle.pair_words.specs.Meeting.{ArePaired, IsRowFor, IsNamedAlike, Suits}
use Rattle.pair_words.specs.Laws.{ExchangesGoWell}
use Rattle.pair_words.proofs.Requests.{never_pauses, same_kind, requests_conform}
use Rattle.pair_words.proofs.Accepted.{IsWell, answered}
use Rattle.pair_words.proofs.Rows.{at, of, setting_up, discovering, selecting, authorizing, asking, cable_checking, pre_charging_first, pre_charging, starting_ac, starting_dc, stopping_ac, stopping_dc, welding, ending_ac, ending_dc}
use Rattle.pair_words.proofs.Charging.{charges_ac, charges_dc}

-- both ends with one dialect
abbrev pub ends : Phase → CarPhase → Dialect → SessionId → SessionId → ℕ → ℕ → Option PreCharged → ℕ → Both
ends r ph d id own told schedule pre n = record { post = at r d id told schedule pre; car = of ph d own n }

-- in its row, with one identifier
in_row : (ph : CarPhase) (r here : Phase) (post : PostPlan) (plan : CarPlan) (x : Outside) (d : Dialect) (id own : SessionId) (told schedule : ℕ) (pre : Option PreCharged) (n : ℕ) → own ≡ id → r ≡ here
    → IsWell post plan (ends here ph d id id told schedule pre n) x → IsWell post plan (ends r ph d id own told schedule pre n) x
in_row ph r here post plan x d id own told schedule pre n e h w =
    subst (λ (o : SessionId). IsWell post plan (ends r ph d id o told schedule pre n) x) (sym e)
    (subst (λ (z : Phase). IsWell post plan (ends z ph d id id told schedule pre n) x) (sym h) w)

in_pre_charge : (r : Phase) (post : PostPlan) (plan : CarPlan) (x : Outside) (d : Dialect) (id own : SessionId) (told schedule : ℕ) (pre : Option PreCharged) (n : ℕ) → own ≡ id
    → (r ≡ row.DcChecked) ⊎ (r ≡ row.DcPreCharging) → is_ac post.mode ≡ false → IsWell post plan (ends r phase.PreCharging d id own told schedule pre n) x
in_pre_charge r post plan x d id own told schedule pre n e (inl h) f =
    in_row phase.PreCharging r row.DcChecked post plan x d id own told schedule pre n e h (pre_charging_first post plan x d id told schedule pre n f)
in_pre_charge r post plan x d id own told schedule pre n e (inr h) f =
    in_row phase.PreCharging r row.DcPreCharging post plan x d id own told schedule pre n e h (pre_charging post plan x d id told schedule pre n f)

by_phase : (ph : CarPhase) (ac : Bool) (r : Phase) (post : PostPlan) (plan : CarPlan) (x : Outside) (d : Dialect) (id own : SessionId) (told schedule : ℕ) (pre : Option PreCharged) (n : ℕ)
    → ArePaired post plan → is_ac post.mode ≡ ac → is_ac plan.mode ≡ ac → IsRowFor ac ph r → IsNamedAlike ph own id → Suits ph x
    → IsWell post plan (ends r ph d id own told schedule pre n) x
by_phase phase.SettingUp ac r post plan x d id own told schedule pre n p f g h e u =
    subst (λ (z : Phase). IsWell post plan (ends z phase.SettingUp d id own told schedule pre n) x) (sym h) (setting_up post plan x d id own told schedule pre n)
by_phase phase.Discovering ac r post plan x d id own told schedule pre n p f g h e u =
    let m = p.matched in in_row phase.Discovering r row.SetUp post plan x d id own told schedule pre n e h (discovering post plan x d id told schedule pre n m.mode)
by_phase phase.Selecting ac r post plan x d id own told schedule pre n p f g h e u =
    in_row phase.Selecting r row.Discovered post plan x d id own told schedule pre n e h (selecting post plan x d id told schedule pre n)
by_phase phase.Authorizing ac r post plan x d id own told schedule pre n p f g h e u =
    in_row phase.Authorizing r row.Selected post plan x d id own told schedule pre n e h (authorizing post plan x d id told schedule pre n)
by_phase phase.Asking ac r post plan x d id own told schedule pre n p f g h e u =
    in_row phase.Asking r row.Authorized post plan x d id own told schedule pre n e h (asking post plan x d id told schedule pre n (g ∙ sym f))
by_phase phase.CableChecking ac r post plan x d id own told schedule pre n p f g h e u =
    in_row phase.CableChecking r row.DcReady post plan x d id own told schedule pre n e h.1 (cable_checking post plan x d id told schedule pre n (f ∙ h.0))
by_phase phase.PreCharging ac r post plan x d id own told schedule pre n p f g h e u = in_pre_charge r post plan x d id own told schedule pre n e h.1 (f ∙ h.0)
by_phase phase.Starting true r post plan x d id own told schedule pre n p f g h e u =
    in_row phase.Starting r row.AcReady post plan x d id own told schedule pre n e h (starting_ac post plan x d id told schedule pre n f)
by_phase phase.Starting false r post plan x d id own told schedule pre n p f g h e u =
    in_row phase.Starting r row.DcPreCharging post plan x d id own told schedule pre n e h (starting_dc post plan x d id told schedule pre n f)
by_phase phase.Charging true r post plan x d id own told schedule pre n p f g h e u =
    in_row phase.Charging r row.AcCharging post plan x d id own told schedule pre n e h (charges_ac post plan x d id told schedule pre n f g u)
by_phase phase.Charging false r post plan x d id own told schedule pre n p f g h e u =
    in_row phase.Charging r row.DcCharging post plan x d id own told schedule pre n e h (charges_dc post plan x d id told schedule pre n f g u)
by_phase phase.Stopping true r post plan x d id own told schedule pre n p f g h e u =
    in_row phase.Stopping r row.AcCharging post plan x d id own told schedule pre n e h (stopping_ac post plan x d id told schedule pre n f g)
by_phase phase.Stopping false r post plan x d id own told schedule pre n p f g h e u =
    in_row phase.Stopping r row.DcCharging post plan x d id own told schedule pre n e h (stopping_dc post plan x d id told schedule pre n f g)
by_phase phase.Renegotiating ac r post plan x d id own told schedule pre n p f g h e u = absurd h
by_phase (phase.Welding left) ac r post plan x d id own told schedule pre n p f g h e u =
    in_row (phase.Welding left) r row.DcStopped post plan x d id own told schedule pre n e h.1 (welding left post plan x d id told schedule pre n (f ∙ h.0))
by_phase phase.Ending true r post plan x d id own told schedule pre n p f g h e u =
    in_row phase.Ending r row.AcStopped post plan x d id own told schedule pre n e h (ending_ac post plan x d id told schedule pre n f (never_pauses post plan d p.matched))
by_phase phase.Ending false r post plan x d id own told schedule pre n p f g h e u =
    in_row phase.Ending r row.DcStopped post plan x d id own told schedule pre n e h (ending_dc post plan x d id told schedule pre n f (never_pauses post plan d p.matched))

pub exchanges_go_well : ExchangesGoWell
exchanges_go_well post plan b x p m u =
    let w : IsWell post plan (ends b.post.row b.car.phase b.post.dialect b.post.session b.car.session b.post.told b.post.schedule b.post.pre_charge b.car.cycles) x =
    by_phase b.car.phase (is_ac post.mode) b.post.row post plan x b.post.dialect b.post.session b.car.session b.post.told b.post.schedule b.post.pre_charge b.car.cycles p refl
    (same_kind post plan p.matched) m.in_row m.named u in
    answered post plan b x (requests_conform post plan b x p m u)
    (subst (λ (d : Dialect). IsWell post plan (record { post = b.post; car = record b.car { dialect = d } }) x) m.dialect w)

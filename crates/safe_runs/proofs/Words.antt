-- A word that is read keeps the tie.
use Rattle.std.proofs.Common.{arith, ◌≡◌, ◌≤◌, ℕ, suc, Bool, true, false, if◌then◌else◌, List, [], length, Option, Some, None, Ok, refl, sym, ap, subst, ◌∙◌, inl, inr, MatchBool}
use Rattle.std.specs.Option.{option_map}
use Rattle.std.proofs.lemmas.Bool.Decides.{nat_tests}
use Rattle.charge_world.specs.declared.offer.Dialect.{Dialect}
use Rattle.session_words.specs.declared.amount.Amount.{Amount}
use Rattle.session_words.specs.declared.code.Progress.TheVariants as progress
use Rattle.session_words.specs.declared.facts.Facts.{Facts}
use Rattle.session_words.specs.declared.phase.Phase.{Phase}
use Rattle.session_words.specs.declared.phase.Phase.TheVariants as row
use Rattle.session_words.specs.declared.plan.PostPlan.{PostPlan}
use Rattle.session_words.specs.declared.session.SessionId.{SessionId}
use Rattle.session_words.specs.declared.word.Ask.{Ask}
use Rattle.session_words.specs.declared.word.Ask.TheVariants as ask
use Rattle.session_words.specs.declared.word.Request.{Request}
use Rattle.session_words.specs.declared.word.Word.TheVariants as word
use Rattle.v2gtp_frames.specs.Reading.{whole_at, payload_at, behind_front, behind_frames}
use Rattle.contactor.specs.Rights.{is_ready}
use Rattle.session_rules.specs.declared.stage.PreCharged.{PreCharged}
use Rattle.session_rules.specs.declared.stage.Stage.{Stage}
use Rattle.session_rules.specs.Causes.{needs_isolation}
use Rattle.session_rules.specs.Delivery.{off_of, is_pre_charged, is_other_tuple, is_profile_off, is_opened}
use Rattle.session_rules.specs.Finishing.{is_ac, is_finished}
use Rattle.session_rules.specs.Moves.{moved}
use Rattle.session_rules.specs.Reply.{reply_to}
use Rattle.session_rules.specs.Rows.{accepts}
use Rattle.session_rules.specs.Stages.{is_waiting}
use Rattle.session_rules.specs.Verdict.{verdict, is_accepted, is_misnamed, accepting_code}
use Rattle.post_spec.specs.Codecs.{Negotiated, Codecs}
use Rattle.post_spec.specs.Facts.{pilot, isolation}
use Rattle.post_spec.specs.Mandated.{before_close, IsStarting}
use Rattle.post_spec.specs.Checked.{pre_charge_off, IsChecked}
use Rattle.post_spec.specs.Sessions.{session, stream, waits}
use Rattle.post_spec.specs.Spelled.{read_back}
use Rattle.post_spec.specs.Steps.{Seen}
use Rattle.post_spec.specs.Talk.{Exchange}
use Rattle.post_spec.specs.Words.{IsPayloadAt}
use Rattle.station_spec.specs.States.{Spoken, Response, Said}
use Rattle.station_spec.specs.Judging.{speaks, speaks_in, chosen_stage, unmatched}
use Rattle.std.specs.Prelude.{ℤ}
use Rattle.safe_runs.specs.Started.{MandatedByOwn}
use Rattle.safe_runs.proofs.Asked.{ok_class, row_takes, says, off_step, cable_valid}
use Rattle.safe_runs.proofs.Links.{Cabled, Delivers, Rowed, CabledThen, DeliversThen, RowedThen, Asks, Pending, Waits, Link}
use Rattle.safe_runs.proofs.Rows.{IsPlain, RowHas, is_charging, row_step, start_step}
use Rattle.safe_runs.proofs.Verdicts.{lines_start}

-- the payload at the front is the one behind those that were taken
place_at : (n taken : ℕ) (heard unread : List ℕ) → unread ≡ behind_frames taken heard → whole_at unread ≡ Ok (Some n) → IsPayloadAt heard taken (payload_at n unread)
place_at n taken heard unread u w = record {
  count = n;
  whole = subst (λ (x : List ℕ). whole_at x ≡ Ok (Some n)) u w;
  payload_is = ap (payload_at n) u;
}

-- before a word is read nothing is owed
pub record Free (c : Codecs) (plan : PostPlan) (past es : List Seen) (stage : Stage) (unread : List ℕ) (link : Link c plan past es stage unread None None (Unit {0})) : Type 0 where
  pub count : link.taken ≡ length link.xs
  pub rowed : Rowed plan past stage link.xs (Unit {0})
  pub still : waits es ≡ false

free_at : (c : Codecs) (plan : PostPlan) (past es : List Seen) (stage : Stage) (xs : List Exchange) (taken : ℕ) (b : Bool) → b ≡ false
    → MatchBool b (Waits c plan past es xs taken stage None (Unit {0})) (Pending c plan past es xs taken stage None None (Unit {0})) → (taken ≡ length xs) × Rowed plan past stage xs (Unit {0})
free_at c plan past es stage xs taken true e t = cc
free_at c plan past es stage xs taken false e t = t

pub free : (c : Codecs) (plan : PostPlan) (past es : List Seen) (stage : Stage) (unread : List ℕ) (l : Link c plan past es stage unread None None (Unit {0})) → is_waiting stage.row ≡ false → Free c plan past es stage unread l
free c plan past es stage unread l w = let f = free_at c plan past es stage l.xs l.taken (is_waiting stage.row) w l.talk in record { count = f.0; rowed = f.1; still = l.quiet w }

cabled_in : (C : Type 0) (b : Bool) → b ≡ true → MatchBool b C (Unit {0}) → C
cabled_in C true e m = m
cabled_in C false e m = cc

cabled_if : (C : Type 0) (b : Bool) → (b ≡ true → C) → MatchBool b C (Unit {0})
cabled_if C true f = f refl
cabled_if C false f = tt

unless_it : (C : Type 0) (b : Bool) → b ≡ false → MatchBool b C (Unit {0})
unless_it C true e = cc
unless_it C false e = tt

some_one : (a b : Dialect) → Some a ≡ Some b → a ≡ b
some_one a b h = cc

pending_in : (c : Codecs) (plan : PostPlan) (past es : List Seen) (xs : List Exchange) (taken : ℕ) (stage : Stage) (reply : Option Spoken) (b : Bool) → b ≡ false → Pending c plan past es xs taken stage reply None (Unit {0})
    → MatchBool b (Waits c plan past es xs taken stage reply (Unit {0})) (Pending c plan past es xs taken stage reply None (Unit {0}))
pending_in c plan past es xs taken stage reply true e p = cc
pending_in c plan past es xs taken stage reply false e p = p

-- a request that is answered
pub plain_link : (c : Codecs) (plan : PostPlan) (past es : List Seen) (stage : Stage) (unread : List ℕ) (facts : Facts) (name : SessionId) (a : Ask) (shown n : ℕ) (d : Dialect) (l : Link c plan past es stage unread None None (Unit {0}))
    → Free c plan past es stage unread l → whole_at unread ≡ Ok (Some n) → c.Reads d (payload_at n unread) (Some (word.Request (record { session = name; ask = a }))) → speaks stage ≡ Some d → isolation past ≡ facts.isolation
    → is_accepted (verdict stage facts plan (record { session = name; ask = a })) ≡ true → IsPlain a
    → (is_waiting (moved stage facts plan (record { session = name; ask = a }) shown).row ≡ false)
    × Link c plan past es (moved stage facts plan (record { session = name; ask = a }) shown) (behind_front unread) (Some (Said stage.dialect (reply_to stage facts plan (record { session = name; ask = a }) shown))) None (Unit {0})
plain_link c plan past es stage unread facts name a shown n d l f w reads sp iso ok plain =
    let r : Request = record { session = name; ask = a } in
    let reply = reply_to stage facts plan r shown in
    let next = moved stage facts plan r shown in
    let step = row_step stage.row a (is_finished facts plan a shown) (is_ac plan.mode) name (read_back reply) l.xs (row_takes stage facts plan r ok)
    (says stage facts plan (verdict stage facts plan r) shown a plain ok) f.rowed.has f.rowed.power in
    let same : d ≡ stage.dialect = some_one d stage.dialect (sym sp ∙ step.talked stage.dialect) in
    let asks : Asks c (stream es) l.xs r stage.dialect = record {
      payload = payload_at n unread;
      place = subst (λ (i : ℕ). IsPayloadAt (stream es) i (payload_at n unread)) f.count (place_at n l.taken (stream es) unread l.unread_is w);
      reads = subst (λ (x : Dialect). c.Reads x (payload_at n unread) (Some (word.Request r))) same reads;
      dialect_is = f.rowed.dialect ∙ step.talked stage.dialect;
    } in
    let cab : needs_isolation next.row ≡ true → CabledThen past r (read_back reply) l.xs = λ m. elim (step.cabled m) [
      | inl h ↦ inl (cabled_in (Cabled past l.xs) (needs_isolation stage.row) h.0 (f.rowed.cabled tt), h.1)
      | inr h ↦ inr (h.0, iso ∙ cable_valid facts plan a shown h.2 h.1)
    ] in
    let owed : RowedThen plan past next r (read_back reply) l.xs (Unit {0}) = record {
      has = step.has;
      power = step.power;
      dialect = f.rowed.dialect ∙ step.talked stage.dialect ∙ sym (step.talks stage.dialect);
      off = off_step stage facts plan (verdict stage facts plan r) shown l.xs a f.rowed.off;
      cabled = λ u. cabled_if (CabledThen past r (read_back reply) l.xs) (needs_isolation next.row) cab;
      delivers = cabled_if (DeliversThen plan past (needs_isolation next.row) r (read_back reply) l.xs (Unit {0})) (is_charging next.row) (λ m.
          let k = step.charges m in
          let here = cabled_in (Delivers plan past (needs_isolation stage.row) l.xs (Unit {0})) (is_charging stage.row) k.0 f.rowed.delivers in
          (subst (λ (n : Bool). Delivers plan past n l.xs (Unit {0})) k.2 here, k.1));
    } in
    let pending : Pending c plan past es l.xs (suc l.taken) next (Some (Said stage.dialect reply)) None (Unit {0}) =
    (ap suc f.count, (r, asks, ok_class (verdict stage facts plan r) ok, owed)) in (
      step.goes,
      record {
        xs = l.xs;
        talks = l.talks;
        ok = l.ok;
        taken = suc l.taken;
        whole = (l.whole, (n, subst (λ (x : List ℕ). whole_at x ≡ Ok (Some n)) l.unread_is w));
        unread_is = ap behind_front l.unread_is;
        quiet = λ q. f.still;
        talk = pending_in c plan past es l.xs (suc l.taken) next (Some (Said stage.dialect reply)) (is_waiting next.row) step.goes pending;
      },
    )

-- PowerDelivery Start: it is mandated, and its reply waits
pub record Started (c : Codecs) (plan : PostPlan) (past es : List Seen) (next stage : Stage) (unread : List ℕ) : Type 0 where
  pub mandated : MandatedByOwn c plan past
  pub waiting : is_waiting next.row ≡ true
  pub ready : is_ready (pilot past) ≡ true
  pub link : Link c plan past es next (behind_front unread) None None (Unit {0})

waits_in : (c : Codecs) (plan : PostPlan) (past es : List Seen) (xs : List Exchange) (taken : ℕ) (stage : Stage) (b : Bool) → b ≡ true → Waits c plan past es xs taken stage None (Unit {0})
    → MatchBool b (Waits c plan past es xs taken stage None (Unit {0})) (Pending c plan past es xs taken stage None None (Unit {0}))
waits_in c plan past es xs taken stage true e p = p
waits_in c plan past es xs taken stage false e p = cc

pre_off : (o : Option PreCharged) → is_pre_charged row.DcPreCharging o ≡ true → (off : ℕ) × (option_map off_of o ≡ Some off) × (off ≤ 200)
pre_off None h = cc
pre_off (Some p) h = (off_of p, refl, grind (arith, nat_tests))

checked_at : (plan : PostPlan) (past : List Seen) (stage : Stage) (xs : List Exchange) (here : Phase) → stage.row ≡ here → here ≡ row.DcPreCharging → is_pre_charged here stage.pre_charge ≡ true → Rowed plan past stage xs (Unit {0}) → Cabled past xs → IsChecked past xs
checked_at plan past stage xs here e h charged r k =
    let p = pre_off stage.pre_charge (subst (λ (x : Phase). is_pre_charged x stage.pre_charge ≡ true) h charged) in
    record {
      behind = k.behind;
      request = k.request;
      reply = k.reply;
      before = k.before;
      earlier = k.earlier;
      xs_are = k.xs_are;
      cable_check = k.cable_check;
      newest = k.newest;
      since = k.since;
      past_is = k.past_is;
      valid = k.valid;
      stays = k.stays;
      off = p.0;
      off_is = r.off ∙ p.1;
      within = p.2;
    }

ac_checked : (C : Type 0) (ac : Bool) → ac ≡ true → MatchBool ac (Unit {0}) C
ac_checked C true e = tt
ac_checked C false e = cc

dc_checked : (C : Type 0) (ac : Bool) → ac ≡ false → C → MatchBool ac (Unit {0}) C
dc_checked C true e k = cc
dc_checked C false e k = k

judged_now : (w : Bool) (past : List Seen) → w ≡ false → past ≡ (if w then before_close past else past)
judged_now true past e = cc
judged_now false past e = refl

pub start_link : (c : Codecs) (plan : PostPlan) (past es : List Seen) (stage : Stage) (unread : List ℕ) (facts : Facts) (name : SessionId) (tuple : Option ℤ) (profile : Option Amount) (shown n : ℕ) (d : Dialect) (l : Link c plan past es stage unread None None (Unit {0}))
    → Free c plan past es stage unread l → session past ≡ Some es → whole_at unread ≡ Ok (Some n) → c.Reads d (payload_at n unread) (Some (word.Request (record { session = name; ask = ask.PowerDelivery progress.Start tuple profile }))) → speaks stage ≡ Some d
    → pilot past ≡ facts.pilot → is_accepted (verdict stage facts plan (record { session = name; ask = ask.PowerDelivery progress.Start tuple profile })) ≡ true
    → Started c plan past es (moved stage facts plan (record { session = name; ask = ask.PowerDelivery progress.Start tuple profile }) shown) stage unread
start_link c plan past es stage unread facts name tuple profile shown n d l f here w reads sp pil ok =
    let r : Request = record { session = name; ask = ask.PowerDelivery progress.Start tuple profile } in
    let next = moved stage facts plan r shown in
    let step = start_step stage.row tuple profile (is_finished facts plan r.ask shown) (is_ac plan.mode) l.xs (row_takes stage facts plan r ok) f.rowed.has f.rowed.power in
    let met = lines_start (is_misnamed stage name) (accepts stage.dialect stage.row r.ask) (is_other_tuple tuple) (is_profile_off stage.dialect stage.schedule profile) (is_ready facts.pilot) (is_opened facts.contactor)
    (is_pre_charged stage.row stage.pre_charge) stage.dialect (accepting_code stage facts name r.ask) ok in
    let same : d ≡ stage.dialect = some_one d stage.dialect (sym sp ∙ step.talked stage.dialect) in
    let place = subst (λ (i : ℕ). IsPayloadAt (stream es) i (payload_at n unread)) f.count (place_at n l.taken (stream es) unread l.unread_is w) in
    let own = subst (λ (x : Dialect). c.Reads x (payload_at n unread) (Some (word.Request r))) same reads in
    let asks : Asks c (stream es) l.xs r stage.dialect = record {
      payload = payload_at n unread;
      place = place;
      reads = own;
      dialect_is = f.rowed.dialect ∙ step.talked stage.dialect;
    } in
    let charged : MatchBool (needs_isolation stage.row) (IsChecked past l.xs) (Unit {0}) = elim step.direct [
      | inl h ↦ cabled_if (IsChecked past l.xs) (needs_isolation stage.row) (λ n. checked_at plan past stage l.xs stage.row refl h.2 met.1 f.rowed (cabled_in (Cabled past l.xs) (needs_isolation stage.row) h.0 (f.rowed.cabled tt)))
      | inr h ↦ unless_it (IsChecked past l.xs) (needs_isolation stage.row) h.1
    ] in
    let checks : MatchBool (is_ac plan.mode) (Unit {0}) (IsChecked past l.xs) = elim step.direct [
      | inl h ↦ dc_checked (IsChecked past l.xs) (is_ac plan.mode) h.1 (checked_at plan past stage l.xs stage.row refl h.2 met.1 f.rowed (cabled_in (Cabled past l.xs) (needs_isolation stage.row) h.0 (f.rowed.cabled tt)))
      | inr h ↦ ac_checked (IsChecked past l.xs) (is_ac plan.mode) h.0
    ] in
    let starts : IsStarting c past es l.xs l.xs past = record {
      spoken = stage.dialect;
      payload = payload_at n unread;
      request = r;
      dialect_is = asks.dialect_is;
      next = place;
      request_is = own;
      start = refl;
      earlier_is = refl;
      judged_is = judged_now (waits es) past f.still;
    } in
    let rowed : Rowed plan past next l.xs (Unit {0}) = record {
      has = step.has;
      power = step.power;
      dialect = f.rowed.dialect ∙ step.talked stage.dialect ∙ sym (step.talks stage.dialect);
      off = f.rowed.off;
      cabled = λ u. subst (λ (b : Bool). MatchBool b (Cabled past l.xs) (Unit {0})) (sym step.needs) (f.rowed.cabled tt);
      delivers = unless_it (Delivers plan past (needs_isolation next.row) l.xs (Unit {0})) (is_charging next.row) step.still;
    } in
    record {
      mandated = record {
        mandated = record {
          es = es;
          session_is = here;
          xs = l.xs;
          talks = l.talks;
          ok = l.ok;
          earlier = l.xs;
          judged = past;
          starts = inl starts;
          prepared = step.prepared;
          checked = checks;
          ready = ap is_ready pil ∙ met.0;
        };
        own = inl starts;
      };
      waiting = step.waits;
      ready = ap is_ready pil ∙ met.0;
      link = record {
        xs = l.xs;
        talks = l.talks;
        ok = l.ok;
        taken = suc l.taken;
        whole = (l.whole, (n, subst (λ (x : List ℕ). whole_at x ≡ Ok (Some n)) l.unread_is w));
        unread_is = ap behind_front l.unread_is;
        quiet = λ q. f.still;
        talk = waits_in c plan past es l.xs (suc l.taken) next (is_waiting next.row) step.waits (record {
          count = ap suc f.count;
          request = r;
          asks = asks;
          start = refl;
          ok = tt;
          rowed = rowed;
          prepared = step.prepared;
          checked = λ u. subst (λ (b : Bool). MatchBool b (IsChecked past l.xs) (Unit {0})) (sym step.needs) charged;
          ready = λ w. absurd (let x : true ≡ false = sym w ∙ f.still in cc);
        });
      };
    }

-- a negotiation
connected_of : (here : Phase) (d : Dialect) → speaks_in here d ≡ None → here ≡ row.Connected
connected_of row.Connected d h = refl
connected_of here d h = cc

none_yet : (here : Phase) (xs : List Exchange) → here ≡ row.Connected → RowHas here xs → xs ≡ []
none_yet here xs e h = subst (λ (p : Phase). RowHas p xs) e h

owes_response : (c : Codecs) (plan : PostPlan) (past es : List Seen) (xs : List Exchange) (taken : ℕ) (stage : Stage) (chosen : Option Dialect) (response : List ℕ) → taken ≡ suc (length xs) → xs ≡ [] → stage.row ≡ row.Connected → Rowed plan past stage xs (Unit {0})
    → (payload : List ℕ) → IsPayloadAt (stream es) 0 payload → c.Negotiates plan.dialects.items payload (Negotiated chosen response)
    → MatchBool (is_waiting (chosen_stage stage chosen).row) (Waits c plan past es xs taken (chosen_stage stage chosen) (Some (Response response)) (Unit {0})) (Pending c plan past es xs taken (chosen_stage stage chosen) (Some (Response response)) (unmatched chosen) (Unit {0}))
owes_response c plan past es xs taken stage None response count none connected r payload place neg =
    let still : is_waiting stage.row ≡ false = ap is_waiting connected in
    rw still (count, (none, (None, payload, place, neg, refl)))
owes_response c plan past es xs taken stage (Some d) response count none connected r payload place neg = (
  count,
  (
    none,
    (
      Some d,
      payload,
      place,
      neg,
      record {
        has = ((refl, tt), inl (refl, tt));
        power = tt;
        dialect = refl;
        off = sym (ap pre_charge_off none) ∙ r.off;
        cabled = λ u. tt;
        delivers = tt;
      },
    ),
  ),
)

pub chosen_link : (c : Codecs) (plan : PostPlan) (past es : List Seen) (stage : Stage) (unread : List ℕ) (chosen : Option Dialect) (response : List ℕ) (n : ℕ) (l : Link c plan past es stage unread None None (Unit {0}))
    → Free c plan past es stage unread l → whole_at unread ≡ Ok (Some n) → c.Negotiates plan.dialects.items (payload_at n unread) (Negotiated chosen response) → speaks stage ≡ None
    → Link c plan past es (chosen_stage stage chosen) (behind_front unread) (Some (Response response)) (unmatched chosen) (Unit {0})
chosen_link c plan past es stage unread chosen response n l f w neg sp =
    let connected = connected_of stage.row stage.dialect sp in
    let none = none_yet stage.row l.xs connected f.rowed.has in
    let zeroth : l.taken ≡ 0 = f.count ∙ ap length none in
    record {
      xs = l.xs;
      talks = l.talks;
      ok = l.ok;
      taken = suc l.taken;
      whole = (l.whole, (n, subst (λ (x : List ℕ). whole_at x ≡ Ok (Some n)) l.unread_is w));
      unread_is = ap behind_front l.unread_is;
      quiet = λ q. f.still;
      talk = owes_response c plan past es l.xs (suc l.taken) stage chosen response (ap suc f.count) none connected f.rowed (payload_at n unread)
          (subst (λ (i : ℕ). IsPayloadAt (stream es) i (payload_at n unread)) zeroth (place_at n l.taken (stream es) unread l.unread_is w)) neg;
    }

-- The values of PowerDelivery Start tell whether it was answered.
use Rattle.std.proofs.Common.{◌≡◌, ◌⊎◌, inl, inr, ℕ, ◌≤◌, Bool, true, false, List, [], ◌∷◌, ◌++◌, length, map, Option, Some, None, refl, sym, ap, subst, ◌∙◌}
use Rattle.std.specs.Prelude.{◌&&◌, ◌||◌, if◌then◌else◌, is_some, MatchBool}
use Rattle.std.proofs.lemmas.Bool.{and_parts, le-leb, leb-true}
use Rattle.charge_world.specs.declared.heard.PilotState.{PilotState}
use Rattle.session_words.specs.declared.word.Reply.{Reply as PostReply}
use Rattle.session_words.specs.declared.word.Request.{Request}
use Rattle.session_words.specs.declared.code.Progress.TheVariants as progress
use Rattle.session_words.specs.declared.word.Ask.{Ask}
use Rattle.session_words.specs.declared.word.Ask.TheVariants as ask
use Rattle.contactor.specs.Rights.{is_ready}
use Rattle.post_spec.specs.Checked.{StaysValid, IsChecked, pre_charge_off}
use Rattle.post_spec.specs.Facts.{pilot}
use Rattle.post_spec.specs.Kinds.{is_of, any, asks_start, asks_opening}
use Rattle.post_spec.specs.Prepared.{HasNo, IsPrepared}
use Rattle.post_spec.specs.Sessions.{arriving, session}
use Rattle.post_spec.specs.Steps.{Event, Act, Give, Send, Answer, End, Seen, Heard, Did}
use Rattle.post_spec.specs.Talk.{Exchange}
use Rattle.told_pasts.specs.Spelling.{SpelledWatts}
use Rattle.told_pasts.specs.Steps.{Said, Response, Replied, Other, Unasked, ToldStep, Hears, Does, Sends, seen_in}
use Rattle.told_pasts.specs.Talk.{Reply, unless_end, judged_by, judged_over, with_said, exchange_of, replies, talk}
use Rattle.audit_mandates.specs.Checking.{HoldsCheck, keeps_valid, isolated, is_near, is_checked}
use Rattle.audit_mandates.specs.Preparing.{prepared, is_prepared}
use Rattle.audit_mandates.specs.Starting.{HasStarted, may_start, started_by, started}
use Rattle.audit_mandates.proofs.Preparing.{differ, by_or, or_first, or_second, and_both, prepared_told, prepared_back}
use Rattle.audit_mandates.proofs.Checking.{AreShorter, shorter, keeps_told, keeps_back, more_seen, less_seen, isolated_told, isolated_back}

-- ---- the check

near_told : (o : Option ℕ) → is_near o ≡ true → (off : ℕ) × (o ≡ Some off) × (off ≤ 200)
near_told None is = absurd (differ is)
near_told (Some off) is = (off, refl, leb-true off 200 is)

near_back : (o : Option ℕ) (off : ℕ) → o ≡ Some off → off ≤ 200 → is_near o ≡ true
near_back o off is h = rw is (le-leb off 200 h)

checked_of : (past : List Seen) (xs : List Exchange) → HoldsCheck past xs → (off : ℕ) → pre_charge_off xs ≡ Some off → off ≤ 200 → IsChecked past xs
checked_of past xs h off is within = record {
  behind = h.behind;
  request = h.request;
  reply = h.reply;
  before = h.before;
  earlier = h.earlier;
  xs_are = h.xs_are;
  cable_check = h.cable_check;
  newest = h.newest;
  since = h.since;
  past_is = h.past_is;
  valid = h.valid;
  stays = h.stays;
  off = off;
  off_is = is;
  within = within;
}

held_of : (past : List Seen) (xs : List Exchange) → IsChecked past xs → HoldsCheck past xs
held_of past xs h = record {
  behind = h.behind;
  request = h.request;
  reply = h.reply;
  before = h.before;
  earlier = h.earlier;
  xs_are = h.xs_are;
  cable_check = h.cable_check;
  newest = h.newest;
  since = h.since;
  past_is = h.past_is;
  valid = h.valid;
  stays = h.stays;
}

-- in DC alone
abbrev pub Checks : Bool → List Seen → List Exchange → Type 0
Checks ac past xs = MatchBool ac (Unit {0}) (IsChecked past xs)

pub check_told : (ac : Bool) (steps : List ToldStep) → is_checked ac (isolated steps) (pre_charge_off (talk steps)) ≡ true → Checks ac (seen_in steps) (talk steps)
check_told true steps is = tt
check_told false steps is =
    let parts = and_parts (isolated steps) (is_near (pre_charge_off (talk steps))) is in
    let near = near_told (pre_charge_off (talk steps)) parts.1 in
    checked_of (seen_in steps) (talk steps) (isolated_told steps parts.0) near.0 near.1 near.2

pub check_back : (ac : Bool) (steps : List ToldStep) → Checks ac (seen_in steps) (talk steps) → is_checked ac (isolated steps) (pre_charge_off (talk steps)) ≡ true
check_back true steps h = refl
check_back false steps h =
    and_both (isolated steps) (is_near (pre_charge_off (talk steps))) (isolated_back steps (held_of (seen_in steps) (talk steps) h))
    (near_back (pre_charge_off (talk steps)) h.off h.off_is h.within)

-- one more thing seen
more_checked : (ac : Bool) (s : Seen) (past : List Seen) (xs : List Exchange) → (ac ≡ true) ⊎ StaysValid s → Checks ac past xs → Checks ac (s ∷ past) xs
more_checked true s past xs stays h = tt
more_checked false s past xs (inl is) h = absurd (differ is)
more_checked false s past xs (inr stays) h = checked_of (s ∷ past) xs (more_seen s past xs stays (held_of past xs h)) h.off h.off_is h.within

less_checked : (ac : Bool) (s : Seen) (past : List Seen) (xs : List Exchange) → AreShorter (length past) xs → Checks ac (s ∷ past) xs → ((ac ≡ true) ⊎ StaysValid s) × Checks ac past xs
less_checked true s past xs short h = (inl refl, tt)
less_checked false s past xs short h =
    let parts = less_seen s past xs short (held_of (s ∷ past) xs h) in
    (inr parts.0, checked_of past xs parts.1 h.off h.off_is h.within)

-- what stands behind a reply in a list is as short
shorter_rest : (n : ℕ) (behind : List Reply) (reply : Reply) (rest : List Reply) → AreShorter n (map exchange_of (behind ++ reply ∷ rest)) → AreShorter n (map exchange_of rest)
shorter_rest n [] reply rest h = h.1
shorter_rest n (b ∷ behind) reply rest h = shorter_rest n behind reply rest h.1

-- ---- with one more thing seen

more_started : (ac : Bool) (s : Seen) (past : List Seen) (rs : List Reply) → (ac ≡ true) ⊎ StaysValid s → HasStarted ac past rs → HasStarted ac (s ∷ past) rs
more_started ac s past rs stays h = record {
  behind = h.behind;
  reply = h.reply;
  rest = h.rest;
  rs_are = h.rs_are;
  request = h.request;
  answer = h.answer;
  watts = h.watts;
  said_is = h.said_is;
  start = h.start;
  goes_on = h.goes_on;
  prepared = h.prepared;
  checked = more_checked ac s past (map exchange_of h.rest) stays h.checked;
  ready = h.ready;
}

less_started : (ac : Bool) (s : Seen) (past : List Seen) (rs : List Reply) → AreShorter (length past) (map exchange_of rs) → HasStarted ac (s ∷ past) rs
    → ((ac ≡ true) ⊎ StaysValid s) × HasStarted ac past rs
less_started ac s past rs short h =
    let below = shorter_rest (length past) h.behind h.reply h.rest (subst (λ (t : List Reply). AreShorter (length past) (map exchange_of t)) h.rs_are short) in
    let parts = less_checked ac s past (map exchange_of h.rest) below h.checked in (
      parts.0,
      record {
        behind = h.behind;
        reply = h.reply;
        rest = h.rest;
        rs_are = h.rs_are;
        request = h.request;
        answer = h.answer;
        watts = h.watts;
        said_is = h.said_is;
        start = h.start;
        goes_on = h.goes_on;
        prepared = h.prepared;
        checked = parts.1;
        ready = h.ready;
      },
    )

-- ---- with one more reply

abbrev opens : Exchange → Bool
opens = is_of asks_opening any

more_replied : (ac : Bool) (past : List Seen) (r : Reply) (rs : List Reply) → opens (exchange_of r) ≡ false → HasStarted ac past rs → HasStarted ac past (r ∷ rs)
more_replied ac past r rs isnt h = record {
  behind = r ∷ h.behind;
  reply = h.reply;
  rest = h.rest;
  rs_are = ap (λ (t : List Reply). r ∷ t) h.rs_are;
  request = h.request;
  answer = h.answer;
  watts = h.watts;
  said_is = h.said_is;
  start = h.start;
  goes_on = (isnt, h.goes_on);
  prepared = h.prepared;
  checked = h.checked;
  ready = h.ready;
}

-- the newest reply is the one to Start
record StartsNow (ac : Bool) (past : List Seen) (r : Reply) (rs : List Reply) : Type 0 where
  request : Request
  answer : PostReply
  watts : SpelledWatts
  said_is : r.said ≡ Replied request answer watts
  start : asks_start request.ask ≡ true
  prepared : IsPrepared ac (map exchange_of rs)
  checked : Checks ac past (map exchange_of rs)
  ready : is_ready (pilot r.judged) ≡ true

now_started : (ac : Bool) (past : List Seen) (r : Reply) (rs : List Reply) → StartsNow ac past r rs → HasStarted ac past (r ∷ rs)
now_started ac past r rs h = record {
  behind = [];
  reply = r;
  rest = rs;
  rs_are = refl;
  request = h.request;
  answer = h.answer;
  watts = h.watts;
  said_is = h.said_is;
  start = h.start;
  goes_on = tt;
  prepared = h.prepared;
  checked = h.checked;
  ready = h.ready;
}

abbrev Newest : Bool → List Seen → Reply → List Reply → Type 0
Newest ac past r rs = StartsNow ac past r rs ⊎ ((opens (exchange_of r) ≡ false) × HasStarted ac past rs)

first_same : (r q : Reply) (rs rest : List Reply) → r ∷ rs ≡ q ∷ rest → (q ≡ r) × (rest ≡ rs)
first_same r q rs rest is = (let same : q ≡ r = cc in same, let same : rest ≡ rs = cc in same)

less_replied_by : (ac : Bool) (past : List Seen) (r : Reply) (rs behind : List Reply) (q : Reply) (rest : List Reply) (request : Request) (answer : PostReply) (watts : SpelledWatts)
    → r ∷ rs ≡ behind ++ q ∷ rest → q.said ≡ Replied request answer watts → asks_start request.ask ≡ true → HasNo opens (map exchange_of behind)
    → IsPrepared ac (map exchange_of rest) → Checks ac past (map exchange_of rest) → is_ready (pilot q.judged) ≡ true → Newest ac past r rs
less_replied_by ac past r rs [] q rest request answer watts is said start none prep check ready =
    let same = first_same r q rs rest is in
    inl (record {
      request = request;
      answer = answer;
      watts = watts;
      said_is = ap (λ (t : Reply). t.said) (sym same.0) ∙ said;
      start = start;
      prepared = subst (λ (t : List Reply). IsPrepared ac (map exchange_of t)) same.1 prep;
      checked = subst (λ (t : List Reply). Checks ac past (map exchange_of t)) same.1 check;
      ready = ap (λ (t : Reply). is_ready (pilot t.judged)) (sym same.0) ∙ ready;
    })
less_replied_by ac past r rs (b ∷ behind) q rest request answer watts is said start none prep check ready =
    let same = first_same r b rs (behind ++ q ∷ rest) is in
    inr (
      ap (λ (t : Reply). opens (exchange_of t)) (sym same.0) ∙ none.0,
      record {
        behind = behind;
        reply = q;
        rest = rest;
        rs_are = sym same.1;
        request = request;
        answer = answer;
        watts = watts;
        said_is = said;
        start = start;
        goes_on = none.1;
        prepared = prep;
        checked = check;
        ready = ready;
      },
    )

less_replied : (ac : Bool) (past : List Seen) (r : Reply) (rs : List Reply) → HasStarted ac past (r ∷ rs) → Newest ac past r rs
less_replied ac past r rs h =
    less_replied_by ac past r rs h.behind h.reply h.rest h.request h.answer h.watts h.rs_are h.said_is h.start h.goes_on h.prepared h.checked h.ready

none_started_by : (behind : List Reply) (reply : Reply) (rest : List Reply) → [] ≡ behind ++ reply ∷ rest → ⊥
none_started_by [] reply rest is = cc
none_started_by (b ∷ behind) reply rest is = cc

none_started : (ac : Bool) (past : List Seen) → HasStarted ac past [] → ⊥
none_started ac past h = none_started_by h.behind h.reply h.rest h.rs_are

-- ---- a Start may be answered

pub may_told : (ac : Bool) (steps : List ToldStep) (state : PilotState) → may_start ac steps state ≡ true
    → IsPrepared ac (talk steps) × Checks ac (seen_in steps) (talk steps) × (is_ready state ≡ true)
may_told ac steps state is =
    let outer = and_parts (is_prepared ac (prepared (talk steps))) (is_checked ac (isolated steps) (pre_charge_off (talk steps)) && is_ready state) is in
    let inner = and_parts (is_checked ac (isolated steps) (pre_charge_off (talk steps))) (is_ready state) outer.1 in
    (prepared_told ac (talk steps) outer.0, check_told ac steps inner.0, inner.1)

pub may_back : (ac : Bool) (steps : List ToldStep) (state : PilotState) → IsPrepared ac (talk steps) → Checks ac (seen_in steps) (talk steps) → is_ready state ≡ true
    → may_start ac steps state ≡ true
may_back ac steps state prep check ready =
    and_both (is_prepared ac (prepared (talk steps))) (is_checked ac (isolated steps) (pre_charge_off (talk steps)) && is_ready state) (prepared_back ac (talk steps) prep)
    (and_both (is_checked ac (isolated steps) (pre_charge_off (talk steps))) (is_ready state) (check_back ac steps check) ready)

-- ---- behind each step, both ways

stays_by : (ac : Bool) (at : ℕ) (event : Event) → (ac ≡ true) ⊎ (keeps_valid event ≡ true) → (ac ≡ true) ⊎ StaysValid (Heard at event)
stays_by ac at event (inl is) = inl is
stays_by ac at event (inr is) = inr (keeps_told at event is)

stays_back : (ac : Bool) (at : ℕ) (event : Event) → (ac ≡ true) ⊎ StaysValid (Heard at event) → (ac || keeps_valid event) ≡ true
stays_back ac at event (inl is) = or_first ac (keeps_valid event) is
stays_back ac at event (inr stays) = or_second ac (keeps_valid event) (keeps_back at event stays)

heard_started : (b ac : Bool) (at : ℕ) (event : Event) (past : List Seen) (rs : List Reply) (held : Bool) → (held ≡ true → HasStarted ac past rs)
    → (if b then false else held && (ac || keeps_valid event)) ≡ true → HasStarted ac (Heard at event ∷ past) (if b then [] else rs)
heard_started true ac at event past rs held earlier is = absurd (differ is)
heard_started false ac at event past rs held earlier is =
    let parts = and_parts held (ac || keeps_valid event) is in
    more_started ac (Heard at event) past rs (stays_by ac at event (by_or ac (keeps_valid event) parts.1)) (earlier parts.0)

done_started : (act : Act) (ac taken : Bool) (past : List Seen) (rs : List Reply) (held : Bool) → (held ≡ true → HasStarted ac past rs)
    → unless_end act false held ≡ true → HasStarted ac (Did act taken ∷ past) (unless_end act [] rs)
done_started (Give order) ac taken past rs held earlier is = more_started ac _ past rs (inr tt) (earlier is)
done_started (Send bytes) ac taken past rs held earlier is = more_started ac _ past rs (inr tt) (earlier is)
done_started (Answer bytes) ac taken past rs held earlier is = more_started ac _ past rs (inr tt) (earlier is)
done_started (End cause) ac taken past rs held earlier is = absurd (differ is)

-- what a reply to a request makes of it
replied_started : (opening ac : Bool) (bytes : List ℕ) (taken : Bool) (request : Request) (answer : PostReply) (watts : SpelledWatts) (steps : List ToldStep) (judged : List Seen) (held : Bool)
    → asks_opening request.ask ≡ opening → (held ≡ true → HasStarted ac (seen_in steps) (replies steps))
    → (if opening then false else (asks_start request.ask && may_start ac steps (pilot judged)) || held) ≡ true
    → HasStarted ac (Did (Send bytes) taken ∷ seen_in steps) (with_said (Replied request answer watts) (seen_in steps) judged (replies steps))
replied_started true ac bytes taken request answer watts steps judged held opening earlier is = absurd (differ is)
replied_started false ac bytes taken request answer watts steps judged held opening earlier is =
    elim (by_or (asks_start request.ask && may_start ac steps (pilot judged)) held is) [
      | inl now ↦ (let parts = and_parts (asks_start request.ask) (may_start ac steps (pilot judged)) now in
          let can = may_told ac steps (pilot judged) parts.1 in
          now_started ac _ _ (replies steps) (record {
            request = request;
            answer = answer;
            watts = watts;
            said_is = refl;
            start = parts.0;
            prepared = can.0;
            checked = more_checked ac _ (seen_in steps) (talk steps) (inr tt) can.1;
            ready = can.2;
          }))
      | inr before ↦ more_replied ac _ _ (replies steps) (rw opening refl) (more_started ac _ (seen_in steps) (replies steps) (inr tt) (earlier before))
    ]

said_started : (said : Said) (ac : Bool) (bytes : List ℕ) (taken : Bool) (steps : List ToldStep) (judged : List Seen) (held : Bool)
    → (held ≡ true → HasStarted ac (seen_in steps) (replies steps)) → started_by said (may_start ac steps (pilot judged)) held ≡ true
    → HasStarted ac (Did (Send bytes) taken ∷ seen_in steps) (with_said said (seen_in steps) judged (replies steps))
said_started (Response chosen positive) ac bytes taken steps judged held earlier is =
    more_replied ac _ _ (replies steps) refl (more_started ac _ (seen_in steps) (replies steps) (inr tt) (earlier is))
said_started (Replied request answer watts) ac bytes taken steps judged held earlier is =
    replied_started (asks_opening request.ask) ac bytes taken request answer watts steps judged held refl earlier is
said_started Other ac bytes taken steps judged held earlier is =
    more_replied ac _ _ (replies steps) refl (more_started ac _ (seen_in steps) (replies steps) (inr tt) (earlier is))
said_started Unasked ac bytes taken steps judged held earlier is = more_started ac _ (seen_in steps) (replies steps) (inr tt) (earlier is)

sent_started : (b : Bool) (said : Said) (ac : Bool) (bytes : List ℕ) (taken : Bool) (steps : List ToldStep) (judged : List Seen) (held : Bool)
    → (held ≡ true → HasStarted ac (seen_in steps) (replies steps)) → (if b then started_by said (may_start ac steps (pilot judged)) held else false) ≡ true
    → HasStarted ac (Did (Send bytes) taken ∷ seen_in steps) (if b then with_said said (seen_in steps) judged (replies steps) else [])
sent_started true said ac bytes taken steps judged held earlier is = said_started said ac bytes taken steps judged held earlier is
sent_started false said ac bytes taken steps judged held earlier is = absurd (differ is)

pub started_told : (ac : Bool) (steps : List ToldStep) → started ac steps ≡ true → HasStarted ac (seen_in steps) (replies steps)
started_told ac [] is = absurd (differ is)
started_told ac (Hears at event ∷ steps) is =
    heard_started (is_some (arriving (seen_in steps))) ac at event (seen_in steps) (replies steps) (started ac steps) (started_told ac steps) is
started_told ac (Does reading act taken ∷ steps) is = done_started act ac taken (seen_in steps) (replies steps) (started ac steps) (started_told ac steps) is
started_told ac (Sends reading bytes taken said ∷ steps) is =
    sent_started (is_some (session (seen_in steps))) said ac bytes taken steps (judged_by reading (seen_in steps) (judged_over steps)) (started ac steps) (started_told ac steps) is

heard_unstarted : (b ac : Bool) (at : ℕ) (event : Event) (past : List Seen) (rs : List Reply) (held : Bool) → AreShorter (length past) (map exchange_of rs)
    → (HasStarted ac past rs → held ≡ true) → HasStarted ac (Heard at event ∷ past) (if b then [] else rs) → (if b then false else held && (ac || keeps_valid event)) ≡ true
heard_unstarted true ac at event past rs held short earlier h = absurd (none_started ac _ h)
heard_unstarted false ac at event past rs held short earlier h =
    let parts = less_started ac (Heard at event) past rs short h in
    and_both held (ac || keeps_valid event) (earlier parts.1) (stays_back ac at event parts.0)

done_unstarted : (act : Act) (ac taken : Bool) (past : List Seen) (rs : List Reply) (held : Bool) → AreShorter (length past) (map exchange_of rs)
    → (HasStarted ac past rs → held ≡ true) → HasStarted ac (Did act taken ∷ past) (unless_end act [] rs) → unless_end act false held ≡ true
done_unstarted (Give order) ac taken past rs held short earlier h = earlier (less_started ac _ past rs short h).1
done_unstarted (Send bytes) ac taken past rs held short earlier h = earlier (less_started ac _ past rs short h).1
done_unstarted (Answer bytes) ac taken past rs held short earlier h = earlier (less_started ac _ past rs short h).1
done_unstarted (End cause) ac taken past rs held short earlier h = absurd (none_started ac _ h)

-- the request that a said reply answers
same_request : (request other : Request) (answer given : PostReply) (watts spelled : SpelledWatts) → Replied request answer watts ≡ Replied other given spelled → request ≡ other
same_request request other answer given watts spelled is = cc

both_none : (a : Ask) → asks_opening a ≡ true → asks_start a ≡ true → ⊥
both_none (ask.PowerDelivery progress.Start tuple profile) opening start = differ opening
both_none (ask.PowerDelivery progress.Stop tuple profile) opening start = differ start
both_none (ask.PowerDelivery progress.Renegotiate tuple profile) opening start = differ start
both_none other opening start = differ opening

starts_opening : (request : Request) → asks_opening request.ask ≡ true → asks_start request.ask ≡ true → ⊥
starts_opening request opening start = both_none request.ask opening start

replied_unstarted : (opening ac : Bool) (bytes : List ℕ) (taken : Bool) (request : Request) (answer : PostReply) (watts : SpelledWatts) (steps : List ToldStep) (judged : List Seen) (held : Bool)
    → asks_opening request.ask ≡ opening → (HasStarted ac (seen_in steps) (replies steps) → held ≡ true)
    → HasStarted ac (Did (Send bytes) taken ∷ seen_in steps) (with_said (Replied request answer watts) (seen_in steps) judged (replies steps))
    → (if opening then false else (asks_start request.ask && may_start ac steps (pilot judged)) || held) ≡ true
replied_unstarted true ac bytes taken request answer watts steps judged held opening earlier h =
    elim (less_replied ac _ _ (replies steps) h) [
      | inl now ↦ absurd (starts_opening request opening
          (ap (λ (t : Request). asks_start t.ask) (same_request request now.request answer now.answer watts now.watts now.said_is) ∙ now.start))
      | inr (isnt, before) ↦ absurd (differ (sym isnt ∙ rw opening refl))
    ]
replied_unstarted false ac bytes taken request answer watts steps judged held opening earlier h =
    elim (less_replied ac _ _ (replies steps) h) [
      | inl now ↦ or_first (asks_start request.ask && may_start ac steps (pilot judged)) held
          (and_both (asks_start request.ask) (may_start ac steps (pilot judged))
          (ap (λ (t : Request). asks_start t.ask) (same_request request now.request answer now.answer watts now.watts now.said_is) ∙ now.start)
          (may_back ac steps (pilot judged) now.prepared (less_checked ac _ (seen_in steps) (talk steps) (shorter steps) now.checked).1 now.ready))
      | inr (isnt, before) ↦ or_second (asks_start request.ask && may_start ac steps (pilot judged)) held
          (earlier (less_started ac _ (seen_in steps) (replies steps) (shorter steps) before).1)
    ]

-- what is no reply to a request starts nothing
abbrev IsNoReply : Said → Type 0
IsNoReply (Replied request reply watts) = ⊥
IsNoReply _ = Unit {0}

no_reply : (said : Said) (request : Request) (answer : PostReply) (watts : SpelledWatts) → IsNoReply said → said ≡ Replied request answer watts → ⊥
no_reply (Response chosen positive) request answer watts none is = cc
no_reply (Replied other given spelled) request answer watts none is = none
no_reply Other request answer watts none is = cc
no_reply Unasked request answer watts none is = cc

kept_by : (ac : Bool) (past : List Seen) (r : Reply) (rs : List Reply) → IsNoReply r.said → HasStarted ac past (r ∷ rs) → HasStarted ac past rs
kept_by ac past r rs none h =
    elim (less_replied ac past r rs h) [
      | inl now ↦ absurd (no_reply r.said now.request now.answer now.watts none now.said_is)
      | inr (isnt, before) ↦ before
    ]

said_unstarted : (said : Said) (ac : Bool) (bytes : List ℕ) (taken : Bool) (steps : List ToldStep) (judged : List Seen) (held : Bool)
    → (HasStarted ac (seen_in steps) (replies steps) → held ≡ true) → HasStarted ac (Did (Send bytes) taken ∷ seen_in steps) (with_said said (seen_in steps) judged (replies steps))
    → started_by said (may_start ac steps (pilot judged)) held ≡ true
said_unstarted (Response chosen positive) ac bytes taken steps judged held earlier h =
    earlier (less_started ac _ (seen_in steps) (replies steps) (shorter steps) (kept_by ac _ _ (replies steps) tt h)).1
said_unstarted (Replied request answer watts) ac bytes taken steps judged held earlier h =
    replied_unstarted (asks_opening request.ask) ac bytes taken request answer watts steps judged held refl earlier h
said_unstarted Other ac bytes taken steps judged held earlier h =
    earlier (less_started ac _ (seen_in steps) (replies steps) (shorter steps) (kept_by ac _ _ (replies steps) tt h)).1
said_unstarted Unasked ac bytes taken steps judged held earlier h = earlier (less_started ac _ (seen_in steps) (replies steps) (shorter steps) h).1

sent_unstarted : (b : Bool) (said : Said) (ac : Bool) (bytes : List ℕ) (taken : Bool) (steps : List ToldStep) (judged : List Seen) (held : Bool)
    → (HasStarted ac (seen_in steps) (replies steps) → held ≡ true)
    → HasStarted ac (Did (Send bytes) taken ∷ seen_in steps) (if b then with_said said (seen_in steps) judged (replies steps) else [])
    → (if b then started_by said (may_start ac steps (pilot judged)) held else false) ≡ true
sent_unstarted true said ac bytes taken steps judged held earlier h = said_unstarted said ac bytes taken steps judged held earlier h
sent_unstarted false said ac bytes taken steps judged held earlier h = absurd (none_started ac _ h)

pub started_back : (ac : Bool) (steps : List ToldStep) → HasStarted ac (seen_in steps) (replies steps) → started ac steps ≡ true
started_back ac [] h = absurd (none_started ac _ h)
started_back ac (Hears at event ∷ steps) h =
    heard_unstarted (is_some (arriving (seen_in steps))) ac at event (seen_in steps) (replies steps) (started ac steps) (shorter steps) (started_back ac steps) h
started_back ac (Does reading act taken ∷ steps) h =
    done_unstarted act ac taken (seen_in steps) (replies steps) (started ac steps) (shorter steps) (started_back ac steps) h
started_back ac (Sends reading bytes taken said ∷ steps) h =
    sent_unstarted (is_some (session (seen_in steps))) said ac bytes taken steps (judged_by reading (seen_in steps) (judged_over steps)) (started ac steps) (started_back ac steps) h

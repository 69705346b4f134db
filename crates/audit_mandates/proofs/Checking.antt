-- The values of the cable check tell whether it holds.
use Rattle.std.proofs.Common.{◌≡◌, ℕ, suc, ◌<◌, Bool, true, false, List, [], ◌∷◌, ◌++◌, length, map, drop, Option, Some, None, refl, sym, ap, subst, ◌∙◌, arith}
use Rattle.std.specs.Prelude.{◌&&◌, if◌then◌else◌, is_some}
use Rattle.std.specs.List.{AllByRecursion}
use Rattle.std.proofs.lemmas.Bool.{and_parts}
use Rattle.charge_world.specs.declared.heard.IsolationLevel.{IsolationLevel}
use Rattle.charge_world.specs.declared.heard.IsolationLevel.TheVariants.{Invalid, Valid, Warning, Fault, NoImd}
use Rattle.session_words.specs.declared.word.Reply.{Reply as PostReply}
use Rattle.session_words.specs.declared.word.Request.{Request}
use Rattle.session_rules.specs.Finishing.{is_valid}
use Rattle.post_spec.specs.Checked.{IsValidIfTold, StaysValid}
use Rattle.post_spec.specs.Facts.{told_by, isolation_in, isolation}
use Rattle.post_spec.specs.Kinds.{is_of, says_finished, asks_cable_check}
use Rattle.post_spec.specs.Prepared.{HasNo}
use Rattle.post_spec.specs.Sessions.{arriving, session}
use Rattle.post_spec.specs.Steps.{Event, Act, Give, Send, Answer, End, Seen, Heard, Did}
use Rattle.post_spec.specs.Talk.{Exchange, Negotiation, Answered}
use Rattle.told_pasts.specs.Steps.{Said, Response, Replied, Other, Unasked, ToldStep, Hears, Does, Sends, seen_in}
use Rattle.told_pasts.specs.Talk.{Reply, unless_end, judged_by, judged_over, with_said, exchange_of, replies, talk}
use Rattle.audit_mandates.specs.Checking.{HoldsCheck, valid_if_told, keeps_valid, isolated_by, isolated}
use Rattle.audit_mandates.proofs.Preparing.{differ, and_both}

-- ---- levels

valid_level : (level : IsolationLevel) → is_valid (Some level) ≡ true → level ≡ Valid
valid_level Invalid is = absurd (differ is)
valid_level Valid is = refl
valid_level Warning is = absurd (differ is)
valid_level Fault is = absurd (differ is)
valid_level NoImd is = absurd (differ is)

pub level_told : (o : Option IsolationLevel) → is_valid o ≡ true → o ≡ Some Valid
level_told None is = absurd (differ is)
level_told (Some level) is = ap Some (valid_level level is)

pub level_back : (o : Option IsolationLevel) → o ≡ Some Valid → is_valid o ≡ true
level_back o is = rw is refl

keeps_told_by : (o : Option IsolationLevel) → valid_if_told o ≡ true → IsValidIfTold o
keeps_told_by None is = tt
keeps_told_by (Some level) is = valid_level level is

keeps_back_by : (o : Option IsolationLevel) → IsValidIfTold o → valid_if_told o ≡ true
keeps_back_by None is = refl
keeps_back_by (Some level) is = rw is refl

pub keeps_told : (at : ℕ) (event : Event) → keeps_valid event ≡ true → StaysValid (Heard at event)
keeps_told at event is = keeps_told_by (told_by isolation_in event) is

pub keeps_back : (at : ℕ) (event : Event) → StaysValid (Heard at event) → keeps_valid event ≡ true
keeps_back at event is = keeps_back_by (told_by isolation_in event) is

-- ---- what was answered before is shorter than the past

abbrev pub IsShorter : ℕ → Exchange → Type 0
IsShorter n (Negotiation chosen) = Unit {0}
IsShorter n (Answered request reply before) = length before < n

abbrev pub AreShorter : ℕ → List Exchange → Type 0
AreShorter n xs = AllByRecursion (IsShorter n) xs

longer_one : (n : ℕ) (x : Exchange) → IsShorter n x → IsShorter (suc n) x
longer_one n (Negotiation chosen) h = tt
longer_one n (Answered request reply before) h = omega (arith, h)

longer : (n : ℕ) (xs : List Exchange) → AreShorter n xs → AreShorter (suc n) xs
longer n [] h = tt
longer n (x ∷ xs) h = (longer_one n x h.0, longer n xs h.1)

shorter_in : (n : ℕ) (behind : List Exchange) (request : Request) (reply : PostReply) (before : List Seen) (earlier : List Exchange)
    → AreShorter n (behind ++ Answered request reply before ∷ earlier) → length before < n
shorter_in n [] request reply before earlier h = h.0
shorter_in n (b ∷ behind) request reply before earlier h = shorter_in n behind request reply before earlier h.1

shorter_at : (n : ℕ) (behind : List Exchange) (request : Request) (reply : PostReply) (before : List Seen) (earlier xs : List Exchange) → xs ≡ behind ++ Answered request reply before ∷ earlier
    → AreShorter n xs → length before < n
shorter_at n behind request reply before earlier xs is h = shorter_in n behind request reply before earlier (subst (AreShorter n) is h)

unless_heard : (b : Bool) (n : ℕ) (rs : List Reply) → AreShorter n (map exchange_of rs) → AreShorter (suc n) (map exchange_of (if b then [] else rs))
unless_heard true n rs h = tt
unless_heard false n rs h = longer n (map exchange_of rs) h

unless_done : (act : Act) (n : ℕ) (rs : List Reply) → AreShorter n (map exchange_of rs) → AreShorter (suc n) (map exchange_of (unless_end act [] rs))
unless_done (Give order) n rs h = longer n (map exchange_of rs) h
unless_done (Send bytes) n rs h = longer n (map exchange_of rs) h
unless_done (Answer bytes) n rs h = longer n (map exchange_of rs) h
unless_done (End cause) n rs h = tt

said_more : (said : Said) (past judged : List Seen) (rs : List Reply) → AreShorter (length past) (map exchange_of rs)
    → AreShorter (suc (length past)) (map exchange_of (with_said said past judged rs))
said_more (Response chosen positive) past judged rs h = (tt, longer (length past) (map exchange_of rs) h)
said_more (Replied request reply watts) past judged rs h = (omega arith, longer (length past) (map exchange_of rs) h)
said_more Other past judged rs h = (tt, longer (length past) (map exchange_of rs) h)
said_more Unasked past judged rs h = longer (length past) (map exchange_of rs) h

if_said : (b : Bool) (said : Said) (past judged : List Seen) (rs : List Reply) → AreShorter (length past) (map exchange_of rs)
    → AreShorter (suc (length past)) (map exchange_of (if b then with_said said past judged rs else []))
if_said true said past judged rs h = said_more said past judged rs h
if_said false said past judged rs h = tt

pub shorter : (steps : List ToldStep) → AreShorter (length (seen_in steps)) (talk steps)
shorter [] = tt
shorter (Hears at event ∷ steps) = unless_heard (is_some (arriving (seen_in steps))) (length (seen_in steps)) (replies steps) (shorter steps)
shorter (Does reading act taken ∷ steps) = unless_done act (length (seen_in steps)) (replies steps) (shorter steps)
shorter (Sends reading bytes taken said ∷ steps) =
    if_said (is_some (session (seen_in steps))) said (seen_in steps) (judged_by reading (seen_in steps) (judged_over steps)) (replies steps) (shorter steps)

-- ---- one more thing seen

pub more_seen : (s : Seen) (past : List Seen) (xs : List Exchange) → StaysValid s → HoldsCheck past xs → HoldsCheck (s ∷ past) xs
more_seen s past xs stays h = record {
  behind = h.behind;
  request = h.request;
  reply = h.reply;
  before = h.before;
  earlier = h.earlier;
  xs_are = h.xs_are;
  cable_check = h.cable_check;
  newest = h.newest;
  since = s ∷ h.since;
  past_is = ap (λ (t : List Seen). s ∷ t) h.past_is;
  valid = h.valid;
  stays = (stays, h.stays);
}

tail_of : {A : Type 0} (x y : A) (xs ys : List A) → x ∷ xs ≡ y ∷ ys → xs ≡ ys
tail_of x y xs ys is = ap (drop 1) is

too_long : (s : Seen) (past before : List Seen) → s ∷ past ≡ before → length before < length past → ⊥
too_long s past before is h = omega (arith, h, ap (λ (t : List Seen). length t) is)

less_by : (s : Seen) (past : List Seen) (xs : List Exchange) (since before : List Seen) → length before < length past → s ∷ past ≡ since ++ before → AllByRecursion StaysValid since
    → StaysValid s × ((rest : List Seen) × (past ≡ rest ++ before) × AllByRecursion StaysValid rest)
less_by s past xs [] before short is stays = absurd (too_long s past before is short)
less_by s past xs (d ∷ since) before short is stays =
    let same : d ≡ s = cc in
    (subst StaysValid same stays.0, (since, tail_of s d past (since ++ before) is, stays.1))

pub less_seen : (s : Seen) (past : List Seen) (xs : List Exchange) → AreShorter (length past) xs → HoldsCheck (s ∷ past) xs → StaysValid s × HoldsCheck past xs
less_seen s past xs short h =
    let parts = less_by s past xs h.since h.before (shorter_at (length past) h.behind h.request h.reply h.before h.earlier xs h.xs_are short) h.past_is h.stays in (
      parts.0,
      record {
        behind = h.behind;
        request = h.request;
        reply = h.reply;
        before = h.before;
        earlier = h.earlier;
        xs_are = h.xs_are;
        cable_check = h.cable_check;
        newest = h.newest;
        since = parts.1.0;
        past_is = parts.1.1;
        valid = h.valid;
        stays = parts.1.2;
      },
    )

-- ---- one more exchange

abbrev is_check : Exchange → Bool
is_check = is_of asks_cable_check says_finished

more_said : (x : Exchange) (past : List Seen) (xs : List Exchange) → is_check x ≡ false → HoldsCheck past xs → HoldsCheck past (x ∷ xs)
more_said x past xs isnt h = record {
  behind = x ∷ h.behind;
  request = h.request;
  reply = h.reply;
  before = h.before;
  earlier = h.earlier;
  xs_are = ap (λ (t : List Exchange). x ∷ t) h.xs_are;
  cable_check = h.cable_check;
  newest = (isnt, h.newest);
  since = h.since;
  past_is = h.past_is;
  valid = h.valid;
  stays = h.stays;
}

less_said_by : (x : Exchange) (past : List Seen) (xs behind : List Exchange) (request : Request) (reply : PostReply) (before : List Seen) (earlier : List Exchange) (since : List Seen)
    → is_check x ≡ false → x ∷ xs ≡ behind ++ Answered request reply before ∷ earlier → is_check (Answered request reply before) ≡ true → HasNo is_check behind
    → past ≡ since ++ before → isolation before ≡ Some Valid → AllByRecursion StaysValid since → HoldsCheck past xs
less_said_by x past xs [] request reply before earlier since isnt is check none past_is valid stays =
    let same : x ≡ Answered request reply before = cc in
    absurd (differ (sym isnt ∙ ap is_check same ∙ check))
less_said_by x past xs (b ∷ behind) request reply before earlier since isnt is check none past_is valid stays = record {
  behind = behind;
  request = request;
  reply = reply;
  before = before;
  earlier = earlier;
  xs_are = tail_of x b xs (behind ++ Answered request reply before ∷ earlier) is;
  cable_check = check;
  newest = none.1;
  since = since;
  past_is = past_is;
  valid = valid;
  stays = stays;
}

less_said : (x : Exchange) (past : List Seen) (xs : List Exchange) → is_check x ≡ false → HoldsCheck past (x ∷ xs) → HoldsCheck past xs
less_said x past xs isnt h =
    less_said_by x past xs h.behind h.request h.reply h.before h.earlier h.since isnt h.xs_are h.cable_check h.newest h.past_is h.valid h.stays

-- a finished cable check
new_check : (bytes : List ℕ) (taken : Bool) (past : List Seen) (request : Request) (reply : PostReply) (xs : List Exchange) → is_check (Answered request reply past) ≡ true
    → isolation past ≡ Some Valid → HoldsCheck (Did (Send bytes) taken ∷ past) (Answered request reply past ∷ xs)
new_check bytes taken past request reply xs is valid = record {
  behind = [];
  request = request;
  reply = reply;
  before = past;
  earlier = xs;
  xs_are = refl;
  cable_check = is;
  newest = tt;
  since = Did (Send bytes) taken ∷ [];
  past_is = refl;
  valid = valid;
  stays = (tt, tt);
}

was_valid_by : (request : Request) (reply : PostReply) (past : List Seen) (xs behind : List Exchange) (other : Request) (answer : PostReply) (before : List Seen) (earlier : List Exchange)
    → is_check (Answered request reply past) ≡ true → Answered request reply past ∷ xs ≡ behind ++ Answered other answer before ∷ earlier → HasNo is_check behind
    → isolation before ≡ Some Valid → isolation past ≡ Some Valid
was_valid_by request reply past xs [] other answer before earlier check is none valid =
    let same : past ≡ before = cc in
    ap isolation same ∙ valid
was_valid_by request reply past xs (b ∷ behind) other answer before earlier check is none valid =
    let same : b ≡ Answered request reply past = cc in
    absurd (differ (sym none.0 ∙ ap is_check same ∙ check))

was_valid : (seen : List Seen) (request : Request) (reply : PostReply) (past : List Seen) (xs : List Exchange) → is_check (Answered request reply past) ≡ true
    → HoldsCheck seen (Answered request reply past ∷ xs) → isolation past ≡ Some Valid
was_valid seen request reply past xs check h = was_valid_by request reply past xs h.behind h.request h.reply h.before h.earlier check h.xs_are h.newest h.valid

no_check_by : (behind : List Exchange) (request : Request) (reply : PostReply) (before : List Seen) (earlier : List Exchange) → [] ≡ behind ++ Answered request reply before ∷ earlier → ⊥
no_check_by [] request reply before earlier is = cc
no_check_by (b ∷ behind) request reply before earlier is = cc

no_check : (past : List Seen) → HoldsCheck past [] → ⊥
no_check past h = no_check_by h.behind h.request h.reply h.before h.earlier h.xs_are

-- ---- behind each step, both ways

heard_check : (b : Bool) (at : ℕ) (event : Event) (past : List Seen) (rs : List Reply) (held : Bool) → (held ≡ true → HoldsCheck past (map exchange_of rs))
    → (if b then false else held && keeps_valid event) ≡ true → HoldsCheck (Heard at event ∷ past) (map exchange_of (if b then [] else rs))
heard_check true at event past rs held earlier is = absurd (differ is)
heard_check false at event past rs held earlier is =
    let parts = and_parts held (keeps_valid event) is in
    more_seen (Heard at event) past (map exchange_of rs) (keeps_told at event parts.1) (earlier parts.0)

done_check : (act : Act) (taken : Bool) (past : List Seen) (rs : List Reply) (held : Bool) → (held ≡ true → HoldsCheck past (map exchange_of rs))
    → unless_end act false held ≡ true → HoldsCheck (Did act taken ∷ past) (map exchange_of (unless_end act [] rs))
done_check (Give order) taken past rs held earlier is = more_seen _ past (map exchange_of rs) tt (earlier is)
done_check (Send bytes) taken past rs held earlier is = more_seen _ past (map exchange_of rs) tt (earlier is)
done_check (Answer bytes) taken past rs held earlier is = more_seen _ past (map exchange_of rs) tt (earlier is)
done_check (End cause) taken past rs held earlier is = absurd (differ is)

replied_check : (b : Bool) (bytes : List ℕ) (taken : Bool) (request : Request) (reply : PostReply) (past : List Seen) (xs : List Exchange) (held : Bool)
    → is_check (Answered request reply past) ≡ b → (held ≡ true → HoldsCheck past xs) → (if b then is_valid (isolation past) else held) ≡ true
    → HoldsCheck (Did (Send bytes) taken ∷ past) (Answered request reply past ∷ xs)
replied_check true bytes taken request reply past xs held check earlier is = new_check bytes taken past request reply xs check (level_told (isolation past) is)
replied_check false bytes taken request reply past xs held check earlier is =
    more_said (Answered request reply past) _ xs check (more_seen (Did (Send bytes) taken) past xs tt (earlier is))

said_check : (said : Said) (bytes : List ℕ) (taken : Bool) (past judged : List Seen) (rs : List Reply) (held : Bool) → (held ≡ true → HoldsCheck past (map exchange_of rs))
    → isolated_by said (isolation past) held ≡ true → HoldsCheck (Did (Send bytes) taken ∷ past) (map exchange_of (with_said said past judged rs))
said_check (Response chosen positive) bytes taken past judged rs held earlier is =
    more_said _ _ (map exchange_of rs) refl (more_seen (Did (Send bytes) taken) past (map exchange_of rs) tt (earlier is))
said_check (Replied request reply watts) bytes taken past judged rs held earlier is =
    replied_check (is_check (Answered request reply past)) bytes taken request reply past (map exchange_of rs) held refl earlier is
said_check Other bytes taken past judged rs held earlier is =
    more_said _ _ (map exchange_of rs) refl (more_seen (Did (Send bytes) taken) past (map exchange_of rs) tt (earlier is))
said_check Unasked bytes taken past judged rs held earlier is = more_seen (Did (Send bytes) taken) past (map exchange_of rs) tt (earlier is)

sent_check : (b : Bool) (said : Said) (bytes : List ℕ) (taken : Bool) (past judged : List Seen) (rs : List Reply) (held : Bool) → (held ≡ true → HoldsCheck past (map exchange_of rs))
    → (if b then isolated_by said (isolation past) held else false) ≡ true → HoldsCheck (Did (Send bytes) taken ∷ past) (map exchange_of (if b then with_said said past judged rs else []))
sent_check true said bytes taken past judged rs held earlier is = said_check said bytes taken past judged rs held earlier is
sent_check false said bytes taken past judged rs held earlier is = absurd (differ is)

pub isolated_told : (steps : List ToldStep) → isolated steps ≡ true → HoldsCheck (seen_in steps) (talk steps)
isolated_told [] is = absurd (differ is)
isolated_told (Hears at event ∷ steps) is =
    heard_check (is_some (arriving (seen_in steps))) at event (seen_in steps) (replies steps) (isolated steps) (isolated_told steps) is
isolated_told (Does reading act taken ∷ steps) is = done_check act taken (seen_in steps) (replies steps) (isolated steps) (isolated_told steps) is
isolated_told (Sends reading bytes taken said ∷ steps) is =
    sent_check (is_some (session (seen_in steps))) said bytes taken (seen_in steps) (judged_by reading (seen_in steps) (judged_over steps)) (replies steps) (isolated steps)
    (isolated_told steps) is

heard_back : (b : Bool) (at : ℕ) (event : Event) (past : List Seen) (rs : List Reply) (held : Bool) → AreShorter (length past) (map exchange_of rs)
    → (HoldsCheck past (map exchange_of rs) → held ≡ true) → HoldsCheck (Heard at event ∷ past) (map exchange_of (if b then [] else rs)) → (if b then false else held && keeps_valid event) ≡ true
heard_back true at event past rs held short earlier h = absurd (no_check _ h)
heard_back false at event past rs held short earlier h =
    let parts = less_seen (Heard at event) past (map exchange_of rs) short h in
    and_both held (keeps_valid event) (earlier parts.1) (keeps_back at event parts.0)

done_back : (act : Act) (taken : Bool) (past : List Seen) (rs : List Reply) (held : Bool) → AreShorter (length past) (map exchange_of rs)
    → (HoldsCheck past (map exchange_of rs) → held ≡ true) → HoldsCheck (Did act taken ∷ past) (map exchange_of (unless_end act [] rs)) → unless_end act false held ≡ true
done_back (Give order) taken past rs held short earlier h = earlier (less_seen _ past (map exchange_of rs) short h).1
done_back (Send bytes) taken past rs held short earlier h = earlier (less_seen _ past (map exchange_of rs) short h).1
done_back (Answer bytes) taken past rs held short earlier h = earlier (less_seen _ past (map exchange_of rs) short h).1
done_back (End cause) taken past rs held short earlier h = absurd (no_check _ h)

replied_back : (b : Bool) (bytes : List ℕ) (taken : Bool) (request : Request) (reply : PostReply) (past : List Seen) (xs : List Exchange) (held : Bool)
    → is_check (Answered request reply past) ≡ b → AreShorter (length past) xs → (HoldsCheck past xs → held ≡ true)
    → HoldsCheck (Did (Send bytes) taken ∷ past) (Answered request reply past ∷ xs) → (if b then is_valid (isolation past) else held) ≡ true
replied_back true bytes taken request reply past xs held check short earlier h = level_back (isolation past) (was_valid _ request reply past xs check h)
replied_back false bytes taken request reply past xs held check short earlier h =
    earlier (less_seen (Did (Send bytes) taken) past xs short (less_said (Answered request reply past) _ xs check h)).1

said_back : (said : Said) (bytes : List ℕ) (taken : Bool) (past judged : List Seen) (rs : List Reply) (held : Bool) → AreShorter (length past) (map exchange_of rs)
    → (HoldsCheck past (map exchange_of rs) → held ≡ true) → HoldsCheck (Did (Send bytes) taken ∷ past) (map exchange_of (with_said said past judged rs))
    → isolated_by said (isolation past) held ≡ true
said_back (Response chosen positive) bytes taken past judged rs held short earlier h =
    earlier (less_seen (Did (Send bytes) taken) past (map exchange_of rs) short (less_said _ _ (map exchange_of rs) refl h)).1
said_back (Replied request reply watts) bytes taken past judged rs held short earlier h =
    replied_back (is_check (Answered request reply past)) bytes taken request reply past (map exchange_of rs) held refl short earlier h
said_back Other bytes taken past judged rs held short earlier h =
    earlier (less_seen (Did (Send bytes) taken) past (map exchange_of rs) short (less_said _ _ (map exchange_of rs) refl h)).1
said_back Unasked bytes taken past judged rs held short earlier h = earlier (less_seen (Did (Send bytes) taken) past (map exchange_of rs) short h).1

sent_back : (b : Bool) (said : Said) (bytes : List ℕ) (taken : Bool) (past judged : List Seen) (rs : List Reply) (held : Bool) → AreShorter (length past) (map exchange_of rs)
    → (HoldsCheck past (map exchange_of rs) → held ≡ true) → HoldsCheck (Did (Send bytes) taken ∷ past) (map exchange_of (if b then with_said said past judged rs else []))
    → (if b then isolated_by said (isolation past) held else false) ≡ true
sent_back true said bytes taken past judged rs held short earlier h = said_back said bytes taken past judged rs held short earlier h
sent_back false said bytes taken past judged rs held short earlier h = absurd (no_check _ h)

pub isolated_back : (steps : List ToldStep) → HoldsCheck (seen_in steps) (talk steps) → isolated steps ≡ true
isolated_back [] h = absurd (no_check _ h)
isolated_back (Hears at event ∷ steps) h =
    heard_back (is_some (arriving (seen_in steps))) at event (seen_in steps) (replies steps) (isolated steps) (shorter steps) (isolated_back steps) h
isolated_back (Does reading act taken ∷ steps) h = done_back act taken (seen_in steps) (replies steps) (isolated steps) (shorter steps) (isolated_back steps) h
isolated_back (Sends reading bytes taken said ∷ steps) h =
    sent_back (is_some (session (seen_in steps))) said bytes taken (seen_in steps) (judged_by reading (seen_in steps) (judged_over steps)) (replies steps) (isolated steps)
    (shorter steps) (isolated_back steps) h

-- The exchanges of a session, each at its place of what was said and heard: what they say of a mandate by bytes.
use Rattle.std.proofs.Common.{◌≡◌, ◌<◌, ◌≤◌, ℕ, suc, Bool, true, false, ◌&&◌, ◌||◌, if◌then◌else◌, List, [], ◌∷◌, length, drop, Some, refl, sym, ap, subst, ◌∙◌, ◌⊎◌, inl, inr, eq-or-lt_of_le, le_refl, arith}
use Rattle.charge_world.specs.declared.entry.Entry.{Entry}
use Rattle.charge_world.specs.declared.offer.Dialect.{Dialect}
use Rattle.session_words.specs.declared.limits.CarLimits.{CarLimits}
use Rattle.session_words.specs.declared.mode.Mode.{Mode}
use Rattle.session_words.specs.declared.word.Ask.{Ask}
use Rattle.session_words.specs.declared.word.Ask.TheVariants as ask
use Rattle.session_words.specs.declared.word.Reply.{Reply}
use Rattle.session_words.specs.declared.word.Request.{Request}
use Rattle.session_words.specs.declared.word.Tell.{Tell}
use Rattle.session_words.specs.declared.word.Word.TheVariants as word
use Rattle.v2gtp_frames.specs.Frames.{frame}
use Rattle.session_rules.specs.Verdict.{is_accepted}
use Rattle.post_spec.specs.Kinds.{says_finished, asks_cable_check, asks_start, asks_renegotiation}
use Rattle.car_spec.specs.Answered.{Exchange, is_check, is_near_charge, is_start, has_check, has_charge, has_start}
use Rattle.car_spec.specs.Codecs.{Codecs}
use Rattle.car_spec.specs.Mandated.{IsAccepted, is_near_target, GoesOn, IsPreCharged, IsStarted}
use Rattle.car_spec.specs.Past.{stream, said, IsAsked, IsTold}
use Rattle.car_spec.specs.Spelled.{dropped_ask, read_back, AreDetermined}
use Rattle.safe_runs.proofs.Asked.{ok_class}
use Rattle.safe_runs.proofs.Growth.{AreWhole}
use Rattle.car_closings.proofs.Growth.{GoesOnTo, said_within, asked_stays, told_stays}

-- each request as it reads, and its reply, behind the offer and the response to it
abbrev pub AreExchanged : Codecs → Dialect → List Entry → List Exchange → Type 0
AreExchanged c d past [] = Unit {0}
AreExchanged c d past (x ∷ xs) =
    IsAsked c d past (suc (length xs)) (read_back x.request) × IsTold c d past (suc (length xs)) x.reply × AreExchanged c d past xs

pub exchanged_stay : (c : Codecs) (d : Dialect) (old new : List Entry) (xs : List Exchange) → GoesOnTo old new → AreWhole (suc (length xs)) (stream old) → AreExchanged c d old xs → AreExchanged c d new xs
exchanged_stay c d old new [] g w k = tt
exchanged_stay c d old new (x ∷ xs) g w k = (
  asked_stays c d old new (suc (length xs)) (read_back x.request) g k.0,
  told_stays c d old new (suc (length xs)) x.reply g w.0 k.1,
  exchanged_stay c d old new xs g w.0 k.2,
)

-- the watts that are dropped decide nothing here
same_ask : (F : Ask → Bool) → ((mode : Mode) (a b : CarLimits) → F (ask.ChargeParameters mode a) ≡ F (ask.ChargeParameters mode b)) → (a : Ask) → F (dropped_ask a) ≡ F a
same_ask F same (ask.SessionSetup car) = refl
same_ask F same ask.ServiceDiscovery = refl
same_ask F same (ask.ServiceDetail service) = refl
same_ask F same (ask.PaymentSelection external services) = refl
same_ask F same ask.Authorization = refl
same_ask F same (ask.ChargeParameters mode limits) = same mode _ limits
same_ask F same (ask.CableCheck ready soc) = refl
same_ask F same (ask.PreCharge ready soc target current) = refl
same_ask F same (ask.PowerDelivery progress tuple profile) = refl
same_ask F same (ask.CurrentDemand ready soc voltage current) = refl
same_ask F same ask.ChargingStatus = refl
same_ask F same (ask.WeldingDetection ready soc) = refl
same_ask F same (ask.SessionStop pause) = refl

same_renegotiation : (a : Ask) → asks_renegotiation (dropped_ask a) ≡ asks_renegotiation a
same_renegotiation a = same_ask asks_renegotiation (λ mode x y. refl) a

same_check : (a : Ask) → asks_cable_check (dropped_ask a) ≡ asks_cable_check a
same_check a = same_ask asks_cable_check (λ mode x y. refl) a

same_start : (a : Ask) → asks_start (dropped_ask a) ≡ asks_start a
same_start a = same_ask asks_start (λ mode x y. refl) a

same_near : (t : Tell) (a : Ask) → is_near_target (dropped_ask a) t ≡ is_near_target a t
same_near t a = same_ask (λ (x : Ask). is_near_target x t) (λ mode x y. refl) a

-- one request was asked at a place
same_payload : (a b : List ℕ) → frame a ≡ frame b → a ≡ b
same_payload a b h = ap (λ (bytes : List ℕ). drop 8 bytes) h

one_request : (a b : Request) → Some (word.Request a) ≡ Some (word.Request b) → a ≡ b
one_request a b h = cc

pub one_asked : (c : Codecs) (d : Dialect) (past : List Entry) (place : ℕ) (a b : Request) → AreDetermined c → IsAsked c d past place a → IsAsked c d past place b → a ≡ b
one_asked c d past place a b det x y =
    let f : Some (frame x.payload) ≡ Some (frame y.payload) = sym x.said_is ∙ y.said_is in
    let p : x.payload ≡ y.payload = same_payload x.payload y.payload (let g : frame x.payload ≡ frame y.payload = cc in g) in
    one_request a b (det.reads d y.payload _ _ (subst (λ (p : List ℕ). c.Reads d p (Some (word.Request a))) p x.request_is) y.request_is)

-- of a place to which exchanges are known: no renegotiation was asked for behind it, up to the last of them
abbrev GoesOnIn : Codecs → Dialect → List Entry → List Exchange → ℕ → Type 0
GoesOnIn c d past xs place =
    (later : ℕ) (request : Request) → place < later → later ≤ length xs → IsAsked c d past later request → asks_renegotiation request.ask ≡ false

renews_not : (c : Codecs) (d : Dialect) (past : List Entry) (place : ℕ) (own request : Request) → AreDetermined c → asks_renegotiation own.ask ≡ false
    → IsAsked c d past place (read_back own) → IsAsked c d past place request → asks_renegotiation request.ask ≡ false
renews_not c d past place own request det none a b =
    let same : read_back own ≡ request = one_asked c d past place (read_back own) request det a b in
    ap (λ (r : Request). asks_renegotiation r.ask) (sym same) ∙ same_renegotiation own.ask ∙ none

up_to : (n later : ℕ) → later ≤ suc n → (later ≡ suc n) ⊎ (later ≤ n)
up_to n later h = elim (eq-or-lt_of_le h) [
  | inl e ↦ inl e
  | inr l ↦ inr (omega arith)
]

more_goes_on : (c : Codecs) (d : Dialect) (past : List Entry) (x : Exchange) (xs : List Exchange) (place : ℕ) → AreDetermined c → asks_renegotiation x.request.ask ≡ false
    → IsAsked c d past (suc (length xs)) (read_back x.request) → GoesOnIn c d past xs place → GoesOnIn c d past (x ∷ xs) place
more_goes_on c d past x xs place det none a g = λ later request l m b. elim (up_to (length xs) later m) [
  | inl e ↦ renews_not c d past (suc (length xs)) x.request request det none a (subst (λ (k : ℕ). IsAsked c d past k request) e b)
  | inr n ↦ g later request l n b
]

here_goes_on : (c : Codecs) (d : Dialect) (past : List Entry) (xs : List Exchange) (place : ℕ) → length xs ≤ place → GoesOnIn c d past xs place
here_goes_on c d past xs place h = λ later request l m b. absurd (omega arith)

-- an accepted CableCheck that was answered Finished
record Checked (c : Codecs) (d : Dialect) (past : List Entry) (xs : List Exchange) : Type 0 where
  place : ℕ
  request : Request
  reply : Reply
  within : place ≤ length xs
  is : IsAccepted c d past place request reply
  cable_check : asks_cable_check request.ask ≡ true
  finished : says_finished reply.tell ≡ true
  goes_on : GoesOnIn c d past xs place

unless_split : (r here : Bool) → (if r then false else here) ≡ true → (r ≡ false) × (here ≡ true)
unless_split true here h = cc
unless_split false here h = (refl, h)

or_split : (a b : Bool) → (a || b) ≡ true → (a ≡ true) ⊎ (b ≡ true)
or_split true b h = inl refl
or_split false b h = inr h

and_split : (a b : Bool) → (a && b) ≡ true → (a ≡ true) × (b ≡ true)
and_split true b h = (refl, h)
and_split false b h = cc

accepted_here : (c : Codecs) (d : Dialect) (past : List Entry) (x : Exchange) (xs : List Exchange) → AreExchanged c d past (x ∷ xs) → is_accepted x.reply.code ≡ true
    → IsAccepted c d past (suc (length xs)) (read_back x.request) x.reply
accepted_here c d past x xs k a = record { asked = k.0; told = k.1; ok = ok_class x.reply.code a }

check_here : (c : Codecs) (d : Dialect) (past : List Entry) (x : Exchange) (xs : List Exchange) → AreExchanged c d past (x ∷ xs) → is_check x ≡ true → Checked c d past (x ∷ xs)
check_here c d past x xs k h =
    let p = and_split (asks_cable_check x.request.ask && says_finished x.reply.tell) (is_accepted x.reply.code) h in
    let q = and_split (asks_cable_check x.request.ask) (says_finished x.reply.tell) p.0 in
    record {
      place = suc (length xs);
      request = read_back x.request;
      reply = x.reply;
      within = le_refl (suc (length xs));
      is = accepted_here c d past x xs k p.1;
      cable_check = same_check x.request.ask ∙ q.0;
      finished = q.1;
      goes_on = here_goes_on c d past (x ∷ xs) (suc (length xs)) (le_refl (suc (length xs)));
    }

abbrev check_more : (c : Codecs) (d : Dialect) (past : List Entry) (x : Exchange) (xs : List Exchange) → AreDetermined c → asks_renegotiation x.request.ask ≡ false → AreExchanged c d past (x ∷ xs)
    → Checked c d past xs → Checked c d past (x ∷ xs)
check_more c d past x xs det none k f = record {
  place = f.place;
  request = f.request;
  reply = f.reply;
  within = (let w : f.place ≤ length xs = f.within in let l : f.place ≤ suc (length xs) = omega arith in l);
  is = f.is;
  cable_check = f.cable_check;
  finished = f.finished;
  goes_on = more_goes_on c d past x xs f.place det none k.0 f.goes_on;
}

checked : (c : Codecs) (d : Dialect) (past : List Entry) (xs : List Exchange) → AreDetermined c → AreExchanged c d past xs → has_check xs ≡ true → Checked c d past xs
checked c d past [] det k h = cc
checked c d past (x ∷ xs) det k h =
    let u = unless_split (asks_renegotiation x.request.ask) (is_check x || has_check xs) h in
    elim (or_split (is_check x) (has_check xs) u.1) [
      | inl e ↦ check_here c d past x xs k e
      | inr e ↦ check_more c d past x xs det u.0 k (checked c d past xs det k.2 e)
    ]

-- and behind it an accepted PreCharge within 20.0 V
record Charged (c : Codecs) (d : Dialect) (past : List Entry) (xs : List Exchange) : Type 0 where
  place : ℕ
  request : Request
  reply : Reply
  within : place ≤ length xs
  is : IsAccepted c d past place request reply
  near : is_near_target request.ask reply.tell ≡ true
  check : Checked c d past xs
  in_order : check.place < place

charge_here : (c : Codecs) (d : Dialect) (past : List Entry) (x : Exchange) (xs : List Exchange) → AreDetermined c → asks_renegotiation x.request.ask ≡ false → AreExchanged c d past (x ∷ xs)
    → is_near_charge x ≡ true → Checked c d past xs → Charged c d past (x ∷ xs)
charge_here c d past x xs det none k h f =
    let p = and_split (is_near_target x.request.ask x.reply.tell) (is_accepted x.reply.code) h in
    let w : f.place ≤ length xs = f.within in
    record {
      place = suc (length xs);
      request = read_back x.request;
      reply = x.reply;
      within = le_refl (suc (length xs));
      is = accepted_here c d past x xs k p.1;
      near = same_near x.reply.tell x.request.ask ∙ p.0;
      check = check_more c d past x xs det none k f;
      in_order = (let l : f.place < suc (length xs) = omega arith in l);
    }

charge_more : (c : Codecs) (d : Dialect) (past : List Entry) (x : Exchange) (xs : List Exchange) → AreDetermined c → asks_renegotiation x.request.ask ≡ false → AreExchanged c d past (x ∷ xs)
    → Charged c d past xs → Charged c d past (x ∷ xs)
charge_more c d past x xs det none k f = record {
  place = f.place;
  request = f.request;
  reply = f.reply;
  within = (let w : f.place ≤ length xs = f.within in let l : f.place ≤ suc (length xs) = omega arith in l);
  is = f.is;
  near = f.near;
  check = check_more c d past x xs det none k f.check;
  in_order = f.in_order;
}

charged : (c : Codecs) (d : Dialect) (past : List Entry) (xs : List Exchange) → AreDetermined c → AreExchanged c d past xs → has_charge xs ≡ true → Charged c d past xs
charged c d past [] det k h = cc
charged c d past (x ∷ xs) det k h =
    let u = unless_split (asks_renegotiation x.request.ask) ((is_near_charge x && has_check xs) || has_charge xs) h in
    elim (or_split (is_near_charge x && has_check xs) (has_charge xs) u.1) [
      | inl e ↦ (let p = and_split (is_near_charge x) (has_check xs) e in charge_here c d past x xs det u.0 k p.0 (checked c d past xs det k.2 p.1))
      | inr e ↦ charge_more c d past x xs det u.0 k (charged c d past xs det k.2 e)
    ]

-- an accepted PowerDelivery Start
record Started (c : Codecs) (d : Dialect) (past : List Entry) (xs : List Exchange) : Type 0 where
  place : ℕ
  request : Request
  reply : Reply
  is : IsAccepted c d past place request reply
  start : asks_start request.ask ≡ true
  goes_on : GoesOnIn c d past xs place

start_here : (c : Codecs) (d : Dialect) (past : List Entry) (x : Exchange) (xs : List Exchange) → AreExchanged c d past (x ∷ xs) → is_start x ≡ true → Started c d past (x ∷ xs)
start_here c d past x xs k h =
    let p = and_split (asks_start x.request.ask) (is_accepted x.reply.code) h in
    record {
      place = suc (length xs);
      request = read_back x.request;
      reply = x.reply;
      is = accepted_here c d past x xs k p.1;
      start = same_start x.request.ask ∙ p.0;
      goes_on = here_goes_on c d past (x ∷ xs) (suc (length xs)) (le_refl (suc (length xs)));
    }

started : (c : Codecs) (d : Dialect) (past : List Entry) (xs : List Exchange) → AreDetermined c → AreExchanged c d past xs → has_start xs ≡ true → Started c d past xs
started c d past [] det k h = cc
started c d past (x ∷ xs) det k h =
    let u = unless_split (asks_renegotiation x.request.ask) (is_start x || has_start xs) h in
    elim (or_split (is_start x) (has_start xs) u.1) [
      | inl e ↦ start_here c d past x xs k e
      | inr e ↦ (let f = started c d past xs det k.2 e in record {
        place = f.place;
        request = f.request;
        reply = f.reply;
        is = f.is;
        start = f.start;
        goes_on = more_goes_on c d past x xs f.place det u.0 k.0 f.goes_on;
      })
    ]

-- where all that was said is known
goes_on_all : (c : Codecs) (d : Dialect) (past : List Entry) (xs : List Exchange) (place : ℕ) → said past ≡ suc (length xs) → GoesOnIn c d past xs place → GoesOn c d past place
goes_on_all c d past xs place s g = λ later request l a.
    let w : later < said past = said_within past later (frame a.payload) a.said_is in
    g later request l (omega arith) a

pub charged_by_bytes : (c : Codecs) (d : Dialect) (past : List Entry) (xs : List Exchange) → AreDetermined c → said past ≡ suc (length xs) → AreExchanged c d past xs → has_charge xs ≡ true → IsPreCharged c d past
charged_by_bytes c d past xs det s k h =
    let f = charged c d past xs det k h in
    record {
      checked = f.check.place;
      check = f.check.request;
      check_reply = f.check.reply;
      check_is = f.check.is;
      cable_check = f.check.cable_check;
      finished = f.check.finished;
      charged = f.place;
      charge = f.request;
      charge_reply = f.reply;
      charge_is = f.is;
      near = f.near;
      in_order = f.in_order;
      goes_on = goes_on_all c d past xs f.check.place s f.check.goes_on;
    }

pub started_by_bytes : (c : Codecs) (d : Dialect) (past : List Entry) (xs : List Exchange) → AreDetermined c → said past ≡ suc (length xs) → AreExchanged c d past xs → has_start xs ≡ true → IsStarted c d past
started_by_bytes c d past xs det s k h =
    let f = started c d past xs det k h in
    record {
      started = f.place;
      start = f.request;
      reply = f.reply;
      start_is = f.is;
      asks_it = f.start;
      goes_on = goes_on_all c d past xs f.place s f.goes_on;
    }

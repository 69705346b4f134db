-- Each of them breaks one sentence of what it is to be served.
use Rattle.std.proofs.Common.{◌≡◌, ◌≤◌, ℕ, suc, true, List, [], ◌∷◌, ◌++◌, length, Some, None, Ok, refl, sym, ap, subst, ◌∙◌, arith}
use Rattle.std.proofs.lemmas.List.Elements.{All-nil, All-cons}
use Rattle.std.specs.List.{AllByRecursion}
use Rattle.charge_world.specs.declared.offer.Dialect.{Dialect}
use Rattle.session_words.specs.declared.word.Reply.{Reply}
use Rattle.session_words.specs.declared.word.Request.{Request}
use Rattle.session_words.specs.declared.word.Word.TheVariants as word
use Rattle.v2gtp_frames.specs.Frames.{frame, IsPayload, Frames}
use Rattle.v2gtp_frames.specs.Reading.{whole_at, behind_frames, payload_at}
use Rattle.v2gtp_frames.proofs.Ends.{none_rest}
use Rattle.v2gtp_frames.proofs.Pieces.{starts_read}
use Rattle.v2gtp_frames.proofs.Same.{next_word, last_rest}
use Rattle.post_spec.specs.Codecs.{Codecs}
use Rattle.post_spec.specs.Sessions.{stream, waits}
use Rattle.post_spec.specs.Steps.{Clock, Send, Seen, Heard, Did}
use Rattle.post_spec.specs.Talk.{Exchange, Negotiation, Answered, IsExchange, IsOk}
use Rattle.post_spec.specs.Words.{IsPayloadAt}
use Rattle.read_runs.proofs.Counting.{counted}
use Rattle.station_examples.specs.Fixtures.{ac_post}
use Rattle.post_spec.specs.Kinds.{asks_start}
use Rattle.served_sessions.specs.Answered.{IsStart, answers_start}
use Rattle.served_sessions.specs.Serving.{IsUpToDate}
use Rattle.served_examples.specs.WrongPasts.{answered, asked, closing, IsFailed, FailedReply, NoReply, TwoReplies, LateClose, CloseForAnother, NeverCloses, EarlyReply, LateReply, EarlyEnd}

-- two whole frames
two_frames : Frames (frame (0 ∷ []) ++ frame (1 ∷ [])) ((0 ∷ []) ∷ (1 ∷ []) ∷ []) []
two_frames =
    let small : 1 ≤ 65536 = omega arith in
    record { whole = refl; each = All-cons IsPayload (0 ∷ []) ((1 ∷ []) ∷ []) small (All-cons IsPayload (1 ∷ []) [] small (All-nil IsPayload)); longest = none_rest [] (starts_read [] refl) }

-- the newest exchange is of the OK class, and not the first one
newest_ok : (newest : Exchange) (earlier xs : List Exchange) → xs ≡ newest ∷ earlier → AllByRecursion IsOk xs → IsOk newest
newest_ok newest earlier xs e ok = (subst (λ (ys : List Exchange). AllByRecursion IsOk ys) e ok).0

failed_by : (c : Codecs) (heard bytes : List ℕ) (past : List Seen) (newest : Exchange) (earlier : List Exchange) → length earlier ≡ 1 → IsExchange c ac_post.dialects.items heard earlier bytes past newest → IsOk newest → IsFailed c bytes → ⊥
failed_by c heard bytes past newest [] n is ok f = absurd (let x : 0 ≡ 1 = n in omega (arith, x))
failed_by c heard bytes past (Negotiation chosen) (x ∷ xs) n is ok f = is
failed_by c heard bytes past (Answered request reply before) (x ∷ xs) n is ok f = f is.0.spoken is.0.text reply is.0.bytes_are is.0.reply_is ok

pub failed_reply : (c : Codecs) → FailedReply c
failed_reply c response bytes f s =
    let a = s.1.answered in
    let t = a.talks in
    let n = counted c ac_post.dialects.items (Did (Send bytes) true ∷ asked response) _ s.1.xs refl t in
    let l : length s.1.xs ≡ suc (length t.earlier) = ap length t.xs_are in
    let m : 2 ≡ length s.1.xs = n in
    failed_by c _ bytes (asked response) t.newest t.earlier (omega (arith, l, m)) t.is (newest_ok t.newest t.earlier s.1.xs t.xs_are a.ok) f

-- a word that was there before
unanswered : (c : Codecs) (response : List ℕ) → IsUpToDate c ac_post (asked response) (asked response) → ⊥
unanswered c response u =
    let e : 2 ≡ length u.xs = u.each ((0 ∷ []) ∷ (1 ∷ []) ∷ []) [] two_frames in
    let n : 1 ≡ length u.xs = counted c ac_post.dialects.items (asked response) (asked response) u.xs refl u.answered.talks in
    omega (arith, e, n)

pub no_reply : (c : Codecs) → NoReply c
no_reply c response s = unanswered c response s.1.up_to_date

pub late_close : (c : Codecs) → LateClose c
late_close c response s = no_reply c response s.0

-- there is no third word
pub no_third : (n : ℕ) (payload : List ℕ) → n ≡ 2 → IsPayloadAt (frame (0 ∷ []) ++ frame (1 ∷ [])) n payload → ⊥
no_third n payload e p =
    let none : whole_at (behind_frames 2 (frame (0 ∷ []) ++ frame (1 ∷ []))) ≡ Ok None =
    ap whole_at (last_rest (frame (0 ∷ []) ++ frame (1 ∷ [])) ((0 ∷ []) ∷ (1 ∷ []) ∷ []) [] two_frames) ∙ starts_read [] refl in
    let some : whole_at (behind_frames 2 (frame (0 ∷ []) ++ frame (1 ∷ []))) ≡ Ok (Some p.count) = ap (λ (i : ℕ). whole_at (behind_frames i (frame (0 ∷ []) ++ frame (1 ∷ [])))) (sym e) ∙ p.whole in
    let x : Ok None ≡ Ok (Some p.count) = sym none ∙ some in
    cc

third_by : (c : Codecs) (bytes : List ℕ) (past : List Seen) (newest : Exchange) (earlier : List Exchange) → length earlier ≡ 2 → IsExchange c ac_post.dialects.items (frame (0 ∷ []) ++ frame (1 ∷ [])) earlier bytes past newest → ⊥
third_by c bytes past newest [] n is = absurd (let x : 0 ≡ 2 = n in omega (arith, x))
third_by c bytes past (Negotiation chosen) (x ∷ xs) n is = is
third_by c bytes past (Answered request reply before) (x ∷ xs) n is = no_third (length (x ∷ xs)) is.0.payload n is.0.asked

pub two_replies : (c : Codecs) → TwoReplies c
two_replies c response first second s =
    let t = s.1.answered.talks in
    let n : 3 ≡ length s.1.xs = counted c ac_post.dialects.items (Did (Send second) true ∷ Did (Send first) true ∷ asked response) (Did (Send second) true ∷ Did (Send first) true ∷ asked response) s.1.xs refl t in
    let l : length s.1.xs ≡ suc (length t.earlier) = ap length t.xs_are in
    third_by c second (Did (Send first) true ∷ asked response) t.newest t.earlier (omega (arith, n, l)) t.is

-- the second word is that of its frame
second_is : (n : ℕ) (payload : List ℕ) → n ≡ 1 → IsPayloadAt (frame (0 ∷ []) ++ frame (1 ∷ [])) n payload → payload ≡ 1 ∷ []
second_is n payload e p =
    let w = next_word (frame (0 ∷ []) ++ frame (1 ∷ [])) ((0 ∷ []) ∷ (1 ∷ []) ∷ []) [] 1 two_frames (omega arith) in
    let some : whole_at (behind_frames 1 (frame (0 ∷ []) ++ frame (1 ∷ []))) ≡ Ok (Some p.count) = ap (λ (i : ℕ). whole_at (behind_frames i (frame (0 ∷ []) ++ frame (1 ∷ [])))) (sym e) ∙ p.whole in
    let x : Ok (Some 1) ≡ Ok (Some p.count) = sym w.0 ∙ some in
    let y : 1 ≡ p.count = cc in
    p.payload_is ∙ ap (λ (i : ℕ). payload_at p.count (behind_frames i (frame (0 ∷ []) ++ frame (1 ∷ [])))) e ∙ ap (λ (i : ℕ). payload_at i (behind_frames 1 (frame (0 ∷ []) ++ frame (1 ∷ [])))) (sym y) ∙ w.1

start_not : (c : Codecs) (response : List ℕ) (es : List Seen) (xs : List Exchange) → asked response ≡ es → length xs ≡ 1
    → ((dialect : Dialect) (request : Request) → c.Reads dialect (1 ∷ []) (Some (word.Request request)) → asks_start request.ask ≡ true → ⊥) → IsStart c es xs → ⊥
start_not c response es xs e n f s =
    let at : IsPayloadAt (stream (asked response)) (length xs) s.payload = subst (λ (us : List Seen). IsPayloadAt (stream us) (length xs) s.payload) (sym e) s.next in
    let k = second_is (length xs) s.payload n at in
    f s.spoken s.request (subst (λ (p : List ℕ). c.Reads s.spoken p (Some (word.Request s.request))) k s.request_is) s.start

-- the reply to the second word, of which each reading is PowerDelivery Start
starts_by : (c : Codecs) (heard bytes : List ℕ) (past : List Seen) (newest : Exchange) (earlier : List Exchange) → heard ≡ frame (0 ∷ []) ++ frame (1 ∷ []) → length earlier ≡ 1
    → ((dialect : Dialect) (request : Request) → c.Reads dialect (1 ∷ []) (Some (word.Request request)) → asks_start request.ask ≡ true) → IsExchange c ac_post.dialects.items heard earlier bytes past newest → answers_start (newest ∷ earlier) ≡ true
starts_by c heard bytes past newest [] h n f is = absurd (let x : 0 ≡ 1 = n in omega (arith, x))
starts_by c heard bytes past (Negotiation chosen) (x ∷ xs) h n f is = absurd is
starts_by c heard bytes past (Answered request reply before) (x ∷ xs) h n f is =
    let at : IsPayloadAt (frame (0 ∷ []) ++ frame (1 ∷ [])) (length (x ∷ xs)) is.0.payload = subst (λ (bs : List ℕ). IsPayloadAt bs (length (x ∷ xs)) is.0.payload) h is.0.asked in
    let k = second_is (length (x ∷ xs)) is.0.payload n at in
    f is.0.spoken request (subst (λ (p : List ℕ). c.Reads is.0.spoken p (Some (word.Request request))) k is.0.request_is)

pub never_closes : (c : Codecs) → NeverCloses c
never_closes c response bytes f s =
    let t = s.1.answered.talks in
    let n = counted c ac_post.dialects.items (Did (Send bytes) true ∷ asked response) (Did (Send bytes) true ∷ asked response) s.1.xs refl t in
    let l : length s.1.xs ≡ suc (length t.earlier) = ap length t.xs_are in
    let m : 2 ≡ length s.1.xs = n in
    let k = starts_by c (stream (asked response)) bytes (asked response) t.newest t.earlier refl (omega (arith, l, m)) f t.is in
    s.1.awaited tt (ap answers_start t.xs_are ∙ k)

pub session_as : (a b : List Seen) → Some a ≡ Some b → a ≡ b
session_as a b h = cc

pub close_for_another : (c : Codecs) → CloseForAnother c
close_for_another c response f s =
    let k = s.1.acts in
    let e = session_as (asked response) k.es k.session_is in
    let n : 1 ≡ length k.xs = counted c ac_post.dialects.items (asked response) (asked response) k.xs refl k.answered.talks in
    start_not c response k.es k.xs e (sym n) f k.start

-- the reply that waits
pub early_reply : (c : Codecs) → EarlyReply c
early_reply c response bytes s =
    let k = s.1.acts in
    let e = session_as (closing response) k.es k.session_is in
    let w : waits (closing response) ≡ true = refl in
    k.confirmed (subst (λ (us : List Seen). waits us ≡ true) e w)

pub late_reply : (c : Codecs) → LateReply c
late_reply c response s = s.1.confirmed refl

-- the first exchange is no SessionStop
pub first_not : (c : Codecs) (heard bytes : List ℕ) (past : List Seen) (newest : Exchange) (earlier : List Exchange) (request : Request) (reply : Reply) (before : List Seen) → newest ≡ Answered request reply before → length earlier ≡ 0
    → IsExchange c ac_post.dialects.items heard earlier bytes past newest → ⊥
first_not c heard bytes past newest [] request reply before e n is = subst (λ (x : Exchange). IsExchange c ac_post.dialects.items heard [] bytes past x) e is
first_not c heard bytes past newest (x ∷ xs) request reply before e n is = absurd (let l : length (x ∷ xs) ≡ suc (length xs) = refl in omega (arith, n, l))

pub head_is : (a b : Exchange) (xs ys : List Exchange) → a ∷ xs ≡ b ∷ ys → b ≡ a
head_is a b xs ys h = cc

pub early_end : (c : Codecs) → EarlyEnd c
early_end c response cause s =
    let k = s.1.acts in
    let t = k.answered.talks in
    let n : 1 ≡ length (Answered k.request k.reply k.before ∷ k.earlier) = counted c ac_post.dialects.items (Heard 200 Clock ∷ answered response) (Heard 200 Clock ∷ answered response) (Answered k.request k.reply k.before ∷ k.earlier) refl t in
    let l : length (Answered k.request k.reply k.before ∷ k.earlier) ≡ suc (length t.earlier) = ap length t.xs_are in
    first_not c _ response _ t.newest t.earlier k.request k.reply k.before (head_is (Answered k.request k.reply k.before) t.newest k.earlier t.earlier t.xs_are) (omega (arith, n, l)) t.is

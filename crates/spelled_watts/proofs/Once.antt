-- A past spells one list of watts.
use Rattle.std.proofs.Common.{◌≡◌, ℕ, suc, List, [], ◌∷◌, drop, length, Option, Some, None, Ok, sym, ap, subst, ◌∙◌}
use Rattle.charge_world.specs.declared.entry.Entry.{Entry}
use Rattle.charge_world.specs.declared.offer.Dialect.{Dialect}
use Rattle.session_words.specs.declared.plan.PostPlan.{PostPlan}
use Rattle.session_words.specs.declared.word.Reply.{Reply}
use Rattle.session_words.specs.declared.word.Request.{Request}
use Rattle.session_words.specs.declared.word.Word.TheVariants as word
use Rattle.v2gtp_frames.specs.Frames.{frame}
use Rattle.v2gtp_frames.specs.Reading.{payload_at, behind_frames}
use Rattle.post_spec.specs.Codecs.{Negotiated, Codecs}
use Rattle.post_spec.specs.Sessions.{arriving, session, stream}
use Rattle.post_spec.specs.Spelled.{spelled_by, IsSpelled, AreDetermined}
use Rattle.post_spec.specs.Steps.{Give, Send, Answer, End, Seen, Heard, Did, seen}
use Rattle.post_spec.specs.Talk.{Exchange, Negotiation, Answered, dialect_of, Negotiates, Answers, IsExchange, OneMore, InSession, Unless, Talks}
use Rattle.post_spec.specs.Words.{IsPayloadAt}
use Rattle.station_spec.specs.Sharing.{Post}
use Rattle.spelled_watts.specs.Spelling.{AreSpelled, AreSpelledOnce}

payload_once : (heard : List ℕ) (n : ℕ) (a b : List ℕ) → IsPayloadAt heard n a → IsPayloadAt heard n b → a ≡ b
payload_once heard n a b p q =
    let w : Ok (Some p.count) ≡ Ok (Some q.count) = sym p.whole ∙ q.whole in
    let e : p.count ≡ q.count = cc in
    p.payload_is ∙ ap (λ (k : ℕ). payload_at k (behind_frames n heard)) e ∙ sym q.payload_is

frame_once : (a b : List ℕ) → frame a ≡ frame b → a ≡ b
frame_once a b h = ap (λ (x : List ℕ). drop 8 x) h

some_dialect : (a b : Dialect) → Some a ≡ Some b → a ≡ b
some_dialect a b h = cc

request_once : (a b : Request) → Some (word.Request a) ≡ Some (word.Request b) → a ≡ b
request_once a b h = cc

reply_once : (a b : Reply) → Some (word.Reply a) ≡ Some (word.Reply b) → a ≡ b
reply_once a b h = cc

chosen_once : (a b : Option Dialect) (x y : List ℕ) → Negotiated a x ≡ Negotiated b y → a ≡ b
chosen_once a b x y h = cc

negotiation_once : (c : Codecs) (offers : List Dialect) (heard bytes : List ℕ) (a b : Option Dialect) → AreDetermined c → Negotiates c offers heard bytes a → Negotiates c offers heard bytes b → a ≡ b
negotiation_once c offers heard bytes a b one p q =
    let e = payload_once heard 0 p.payload q.payload p.first q.first in
    chosen_once a b p.response q.response
    (one.negotiates offers q.payload (Negotiated a p.response) (Negotiated b q.response) (subst (λ (x : List ℕ). c.Negotiates offers x (Negotiated a p.response)) e p.judged) q.judged)

answer_once : (c : Codecs) (o : Option Dialect) (n : ℕ) (heard bytes : List ℕ) (r q : Request) (x y : Reply) → AreDetermined c → Answers c o n heard bytes r x → Answers c o n heard bytes q y → (r ≡ q) × (x ≡ y)
answer_once c o n heard bytes r q x y one a b =
    let d = some_dialect a.spoken b.spoken (sym a.dialect_is ∙ b.dialect_is) in
    let p = payload_once heard n a.payload b.payload a.asked b.asked in
    let t = frame_once a.text b.text (sym a.bytes_are ∙ b.bytes_are) in
    let ask = subst (λ (w : List ℕ). c.Reads b.spoken w (Some (word.Request r))) p (subst (λ (e : Dialect). c.Reads e a.payload (Some (word.Request r))) d a.request_is) in
    let say = subst (λ (w : List ℕ). c.Reads b.spoken w (Some (word.Reply x))) t (subst (λ (e : Dialect). c.Reads e a.text (Some (word.Reply x))) d a.reply_is) in
    (request_once r q (one.reads b.spoken b.payload _ _ ask b.request_is), reply_once x y (one.reads b.spoken b.text _ _ say b.reply_is))

exchange_once : (c : Codecs) (offers : List Dialect) (heard : List ℕ) (xs : List Exchange) (bytes : List ℕ) (past : List Seen) (a b : Exchange) → AreDetermined c → IsExchange c offers heard xs bytes past a → IsExchange c offers heard xs bytes past b → a ≡ b
exchange_once c offers heard [] bytes past (Negotiation p) (Negotiation q) one x y = ap Negotiation (negotiation_once c offers heard bytes p q one x y)
exchange_once c offers heard [] bytes past (Negotiation p) (Answered r reply before) one x y = absurd y
exchange_once c offers heard [] bytes past (Answered r reply before) b one x y = absurd x
exchange_once c offers heard (z ∷ xs) bytes past (Negotiation p) b one x y = absurd x
exchange_once c offers heard (z ∷ xs) bytes past (Answered r reply before) (Negotiation q) one x y = absurd y
exchange_once c offers heard (z ∷ xs) bytes past (Answered r reply before) (Answered q answer earlier) one x y =
    let e = answer_once c (dialect_of (z ∷ xs)) (length (z ∷ xs)) heard bytes r q reply answer one x.0 y.0 in
    ap (λ (u : Request). Answered u reply before) e.0 ∙ ap (λ (u : Reply). Answered q u before) e.1 ∙ ap (λ (u : List Seen). Answered q answer u) (x.1 ∙ sym y.1)

unless_once : (o : Option Seen) (T : List Exchange → Type 0) (xs ys : List Exchange) → (T xs → T ys → xs ≡ ys) → Unless o (T xs) (xs ≡ []) → Unless o (T ys) (ys ≡ []) → xs ≡ ys
unless_once None T xs ys same x y = same x y
unless_once (Some came) T xs ys same x y = x ∙ sym y

sent_once : (c : Codecs) (offers : List Dialect) (past : List Seen) (bytes : List ℕ) (o : Option (List Seen)) (T : List Exchange → Type 0) (xs ys : List Exchange) → AreDetermined c → ((a b : List Exchange) → T a → T b → a ≡ b)
    → InSession o (λ es. OneMore c offers es past bytes T xs) (xs ≡ []) → InSession o (λ es. OneMore c offers es past bytes T ys) (ys ≡ []) → xs ≡ ys
sent_once c offers past bytes None T xs ys one same x y = x ∙ sym y
sent_once c offers past bytes (Some es) T xs ys one same x y =
    let e = same x.earlier y.earlier x.before y.before in
    let n = exchange_once c offers (stream es) y.earlier bytes past x.newest y.newest one (subst (λ (zs : List Exchange). IsExchange c offers (stream es) zs bytes past x.newest) e x.is) y.is in
    x.xs_are ∙ ap (λ (z : Exchange). z ∷ x.earlier) n ∙ ap (λ (zs : List Exchange). y.newest ∷ zs) e ∙ sym y.xs_are

pub talks_once : (c : Codecs) (offers : List Dialect) (past : List Seen) (xs ys : List Exchange) → AreDetermined c → Talks c offers past xs → Talks c offers past ys → xs ≡ ys
talks_once c offers [] xs ys one x y = x ∙ sym y
talks_once c offers (Heard at event ∷ past) xs ys one x y = unless_once (arriving past) (Talks c offers past) xs ys (talks_once c offers past xs ys one) x y
talks_once c offers (Did (Give o) taken ∷ past) xs ys one x y = talks_once c offers past xs ys one x y
talks_once c offers (Did (Answer bytes) taken ∷ past) xs ys one x y = talks_once c offers past xs ys one x y
talks_once c offers (Did (End cause) taken ∷ past) xs ys one x y = x ∙ sym y
talks_once c offers (Did (Send bytes) taken ∷ past) xs ys one x y = sent_once c offers past bytes (session past) (Talks c offers past) xs ys one (λ a b p q. talks_once c offers past a b one p q) x y

spelled_once : (c : Codecs) (plan : PostPlan) (past : List Seen) (m n : ℕ) → AreDetermined c → IsSpelled c plan past m → IsSpelled c plan past n → m ≡ n
spelled_once c plan past m n one a b = a.watts_are ∙ ap (spelled_by plan) (talks_once c plan.dialects.items past a.xs b.xs one a.talks b.talks) ∙ sym b.watts_are

all_once : (c : Codecs) (past : List Entry) (k : ℕ) (posts : List Post) (ms ns : List ℕ) → AreDetermined c → AreSpelled c past k posts ms → AreSpelled c past k posts ns → ms ≡ ns
all_once c past k [] ms ns one a b = a ∙ sym b
all_once c past k (p ∷ posts) [] ns one a b = absurd a
all_once c past k (p ∷ posts) (m ∷ ms) [] one a b = absurd b
all_once c past k (p ∷ posts) (m ∷ ms) (n ∷ ns) one a b =
    ap (λ (x : ℕ). x ∷ ms) (spelled_once c p.plan (seen k past) m n one a.0 b.0) ∙ ap (λ (xs : List ℕ). n ∷ xs) (all_once c past (suc k) posts ms ns one a.1 b.1)

pub are_spelled_once : (c : Codecs) → AreSpelledOnce c
are_spelled_once c past posts ms ns one a b = all_once c past 1 posts ms ns one a b

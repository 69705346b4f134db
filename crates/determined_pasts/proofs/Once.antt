-- Each step of a post is one, and so are the posts.
use Rattle.std.proofs.Common.{◌≡◌, ℕ, suc, ◌+◌, ◌-◌, max, min, ◌∙◌, sym, ap, subst, refl, drop, Bool, true, false, ◌&&◌, List, [], ◌∷◌, ◌++◌, length, map, Option, Some, None, unwrap_or, inl, inr, ◌⊎◌, arith}
use Rattle.std.specs.List.{sum_by}
use Rattle.charge_world.specs.declared.entry.Entry.{Entry}
use Rattle.charge_world.specs.declared.entry.Entry.TheVariants as entry
use Rattle.charge_world.specs.declared.offer.Dialect.{Dialect}
use Rattle.session_words.specs.declared.plan.PostPlan.{PostPlan}
use Rattle.session_words.specs.declared.plan.SitePlan.{SitePlan}
use Rattle.session_words.specs.declared.word.Reply.{Reply}
use Rattle.session_words.specs.declared.word.Request.{Request}
use Rattle.session_words.specs.declared.word.Word.{Word}
use Rattle.session_words.specs.declared.word.Word.TheVariants as word
use Rattle.session_rules.specs.Asks.{asks, shows_watts}
use Rattle.session_rules.specs.Verdict.{verdict, is_accepted}
use Rattle.v2gtp_frames.specs.Frames.{frame}
use Rattle.power_share.proofs.Levels.{level_unique}
use Rattle.post_spec.specs.Codecs.{Judged, Negotiated, Asked, WrongSide, Refused, Codecs}
use Rattle.post_spec.specs.Course.{Talked, Course, facts_of}
use Rattle.post_spec.specs.Sessions.{session, stream, replies}
use Rattle.post_spec.specs.Spelled.{AreDetermined}
use Rattle.post_spec.specs.Steps.{Act, Give, Send, Answer, End, Seen, Reading, moment, event_at}
use Rattle.post_spec.specs.Words.{HeardWord, Payload, Words, next_words}
use Rattle.told_pasts.specs.Course.{told_course}
use Rattle.told_pasts.specs.Reading.{IsUnanswered, IsNext, IsJudged, ShownTo, IsShownIn, IsShown, IsReading, Says, IsResponse, IsReply, IsSaid, spoken_in}
use Rattle.told_pasts.specs.Site.{ToldPost, asked_of, told_of, Shows, IsOther, IsSending, IsStep, hearing, OneDoes, Later, ArePosts}
use Rattle.told_pasts.specs.Spelling.{SpelledWatts, ToldCodecs}
use Rattle.told_pasts.specs.Steps.{Said, Response, Replied, Other, Unasked, ToldStep, Does, Sends, seen_in}
use Rattle.audit_streams.specs.Words.{AnswersOnce, SpeaksOnce}
use Rattle.audit_readings.proofs.Once.{words_once}
use Rattle.determined_pasts.specs.Posts.{PostsAreOne}

-- Words.

same_session : (past es zs : List Seen) → session past ≡ Some es → session past ≡ Some zs → es ≡ zs
same_session past es zs s t = let x : Some es ≡ Some zs = sym s ∙ t in cc

heads : (a b : HeardWord) (xs ys : List HeardWord) → a ∷ xs ≡ b ∷ ys → a ≡ b
heads a b xs ys e = cc

next_once : (c : Codecs) (offers : List Dialect) (past : List Seen) (a b : HeardWord) → AreDetermined c → IsNext c offers past a → IsNext c offers past b → a ≡ b
next_once c offers past a b det x y =
    let es = same_session past x.es y.es x.hearing.session_is y.hearing.session_is in
    let words = words_once c offers (stream y.es) x.words y.words det (subst (λ (zs : List Seen). Words c offers (stream zs) x.words) es x.hearing.words_are) y.hearing.words_are in
    heads a b x.rest y.rest (sym x.next ∙ ap (λ (zs : List Seen). next_words zs x.words) es ∙ ap (λ (ws : List HeardWord). next_words y.es ws) words ∙ y.next)

unanswered_once : (c : Codecs) (offers : List Dialect) (past : List Seen) (v w : List HeardWord) (a b : HeardWord) → AreDetermined c → IsUnanswered c offers past v a → IsUnanswered c offers past w b → (v ≡ w) × (a ≡ b)
unanswered_once c offers past v w a b det x y =
    let es = same_session past x.es y.es x.hearing.session_is y.hearing.session_is in
    let words = words_once c offers (stream y.es) v w det (subst (λ (zs : List Seen). Words c offers (stream zs) v) es x.hearing.words_are) y.hearing.words_are in
    (words, heads a b x.rest y.rest (sym x.first ∙ ap (λ (zs : List Seen). drop (length (replies zs)) v) es ∙ ap (λ (ws : List HeardWord). drop (length (replies y.es)) ws) words ∙ y.first))

-- Readings.

judged_once : (c : ToldCodecs) (plan : PostPlan) (steps : List ToldStep) (act : Act) (i j : Judged) → AreDetermined c.words → IsJudged c plan steps act i → IsJudged c plan steps act j → i ≡ j
judged_once c plan steps act i j det x y = let e : Payload i ≡ Payload j = next_once c.words plan.dialects.items (seen_in steps) (Payload i) (Payload j) det x.next y.next in cc

abbrev SharesOnce : (ℕ → ℕ → Type 0) → Type 0
SharesOnce Share = (asked m n : ℕ) → Share asked m → Share asked n → m ≡ n

to_once : (Share : ℕ → ℕ → Type 0) (b : Bool) (asked m n : ℕ) → SharesOnce Share → ShownTo Share b asked m → ShownTo Share b asked n → m ≡ n
to_once Share true asked m n once x y = once asked m n x y
to_once Share false asked m n once x y = x ∙ sym y

shown_in : (Share : ℕ → ℕ → Type 0) (plan : PostPlan) (steps : List ToldStep) (c : Course) (t : Option Talked) (j : Judged) (m n : ℕ) → SharesOnce Share → IsShownIn Share plan steps c t j m → IsShownIn Share plan steps c t j n → m ≡ n
shown_in Share plan steps c None j m n once x y = x ∙ sym y
shown_in Share plan steps c (Some t) (Asked r) m n once x y =
    to_once Share (is_accepted (verdict t.stage (facts_of (seen_in steps) c) plan r) && shows_watts r.ask) (unwrap_or (asks plan r.ask) t.asked) m n once x y
shown_in Share plan steps c (Some t) (Negotiated chosen own) m n once x y = x ∙ sym y
shown_in Share plan steps c (Some t) WrongSide m n once x y = x ∙ sym y
shown_in Share plan steps c (Some t) Refused m n once x y = x ∙ sym y

reading_once : (c : ToldCodecs) (Share : ℕ → ℕ → Type 0) (plan : PostPlan) (steps : List ToldStep) (act : Act) (r s : Option Reading) → AreDetermined c.words → SharesOnce Share → IsReading c Share plan steps act r → IsReading c Share plan steps act s → r ≡ s
reading_once c Share plan steps act None None det once x y = refl
reading_once c Share plan steps act None (Some s) det once x y = absurd (x s.judged y.0)
reading_once c Share plan steps act (Some r) None det once x y = absurd (y r.judged x.0)
reading_once c Share plan steps act (Some r) (Some s) det once x y =
    let j = judged_once c plan steps act r.judged s.judged det x.0 y.0 in
    let n = shown_in Share plan steps (told_course plan steps) (told_course plan steps).session s.judged r.shown s.shown once (subst (λ (i : Judged). IsShown Share plan steps i r.shown) j x.1) y.1 in
    ap (λ (i : Judged). Some (record { judged = i; shown = r.shown })) j ∙ ap (λ (m : ℕ). Some (record { judged = s.judged; shown = m })) n

-- What bytes say.

one_payload : (bytes p q : List ℕ) → bytes ≡ frame p → bytes ≡ frame q → p ≡ q
one_payload bytes p q e f = ap (λ (s : List ℕ). drop 8 s) (sym e ∙ f)

chosen_one : (a b : Option Dialect) (x y : List ℕ) → Payload (Negotiated a x) ≡ Payload (Negotiated b y) → a ≡ b
chosen_one a b x y e = cc

asked_one : (a b : Request) → Payload (Asked a) ≡ Payload (Asked b) → a ≡ b
asked_one a b e = cc

apart : {A : Type 0} (chosen : Option Dialect) (own : List ℕ) (request : Request) → Payload (Negotiated chosen own) ≡ Payload (Asked request) → A
apart chosen own request e = absurd (cc)

dialect_one : (a b : Dialect) → Some a ≡ Some b → a ≡ b
dialect_one a b e = cc

reply_one : (a b : Reply) → Some (word.Reply a) ≡ Some (word.Reply b) → a ≡ b
reply_one a b e = cc

responses : (a b : Option Dialect) (p q : Bool) → a ≡ b → p ≡ q → Response a p ≡ Response b q
responses a b p q e f = cc

replied : (a b : Request) (x y : Reply) (v w : SpelledWatts) → a ≡ b → x ≡ y → v ≡ w → Replied a x v ≡ Replied b y w
replied a b x y v w e f g = cc

says_once : (c : ToldCodecs) (plan : PostPlan) (past : List Seen) (bytes : List ℕ) (s t : Said) → AreDetermined c.words → AnswersOnce c.Responds → SpeaksOnce c.Watts → Says c plan past bytes s → Says c plan past bytes t → s ≡ t
says_once c plan past bytes s t det answers speaks (IsResponse v a own p positive u e r) (IsResponse w b other q still x f k) =
    let one = unanswered_once c.words plan.dialects.items past v w (Payload (Negotiated a own)) (Payload (Negotiated b other)) det u x in
    responses a b positive still (chosen_one a b own other one.1) (answers q positive still (subst (λ (y : List ℕ). c.Responds y positive) (one_payload bytes p q e f) r) k)
says_once c plan past bytes s t det answers speaks (IsResponse v a own p positive u e r) (IsReply w request reply spoken q spelled x sp f reads kind spells) =
    apart a own request (unanswered_once c.words plan.dialects.items past v w (Payload (Negotiated a own)) (Payload (Asked request)) det u x).1
says_once c plan past bytes s t det answers speaks (IsReply w request reply spoken q spelled x sp f reads kind spells) (IsResponse v a own p positive u e r) =
    apart a own request (unanswered_once c.words plan.dialects.items past v w (Payload (Negotiated a own)) (Payload (Asked request)) det u x).1
says_once c plan past bytes s t det answers speaks (IsReply v request reply spoken p spelled u su e reads kind spells) (IsReply w request' reply' spoken' q spelled' x sx f reads' kind' spells') =
    let one = unanswered_once c.words plan.dialects.items past v w (Payload (Asked request)) (Payload (Asked request')) det u x in
    let d : spoken ≡ spoken' = dialect_one spoken spoken' (sym su ∙ ap spoken_in one.0 ∙ sx) in
    let payload = one_payload bytes p q e f in
    let here : c.words.Reads spoken' q (Some (word.Reply reply)) = subst (λ (y : List ℕ). c.words.Reads spoken' y (Some (word.Reply reply))) payload (subst (λ (z : Dialect). c.words.Reads z p (Some (word.Reply reply))) d reads) in
    let watts : c.Watts spoken' q spelled = subst (λ (y : List ℕ). c.Watts spoken' y spelled) payload (subst (λ (z : Dialect). c.Watts z p spelled) d spells) in
    replied request request' reply reply' spelled spelled' (asked_one request request' one.1) (reply_one reply reply' (det.reads spoken' q (Some (word.Reply reply)) (Some (word.Reply reply')) here reads')) (speaks spoken' q spelled spelled' watts spells')

abbrev IsAsked : ToldCodecs → PostPlan → List Seen → Type 0
IsAsked c plan past = (words : List HeardWord) × (first : HeardWord) × IsUnanswered c.words plan.dialects.items past words first

says_asked : (c : ToldCodecs) (plan : PostPlan) (past : List Seen) (bytes : List ℕ) (s : Said) → Says c plan past bytes s → IsAsked c plan past
says_asked c plan past bytes s (IsResponse v a own p positive u e r) = (v, Payload (Negotiated a own), u)
says_asked c plan past bytes s (IsReply w request reply spoken q spelled x sp f reads kind spells) = (w, Payload (Asked request), x)

-- one of three
data Kind (c : ToldCodecs) (plan : PostPlan) (past : List Seen) (bytes : List ℕ) (s : Said) : Type 0 where
  DoesSay : Says c plan past bytes s → Kind c plan past bytes s
  SaysNone : s ≡ Other → IsAsked c plan past → ((t : Said) → Says c plan past bytes t → ⊥) → Kind c plan past bytes s
  WasNotAsked : s ≡ Unasked → (IsAsked c plan past → ⊥) → Kind c plan past bytes s

kind_of : (c : ToldCodecs) (plan : PostPlan) (past : List Seen) (bytes : List ℕ) (s : Said) → IsSaid c plan past bytes s → Kind c plan past bytes s
kind_of c plan past bytes (Response chosen positive) is = DoesSay is
kind_of c plan past bytes (Replied request reply spelled) is = DoesSay is
kind_of c plan past bytes Other is = SaysNone refl is.0 is.1
kind_of c plan past bytes Unasked is = WasNotAsked refl (λ a. is a.0 a.1 a.2)

kinds_once : (c : ToldCodecs) (plan : PostPlan) (past : List Seen) (bytes : List ℕ) (s t : Said) → AreDetermined c.words → AnswersOnce c.Responds → SpeaksOnce c.Watts → Kind c plan past bytes s → Kind c plan past bytes t → s ≡ t
kinds_once c plan past bytes s t det answers speaks (DoesSay x) (DoesSay y) = says_once c plan past bytes s t det answers speaks x y
kinds_once c plan past bytes s t det answers speaks (DoesSay x) (SaysNone e asked none) = absurd (none s x)
kinds_once c plan past bytes s t det answers speaks (DoesSay x) (WasNotAsked e none) = absurd (none (says_asked c plan past bytes s x))
kinds_once c plan past bytes s t det answers speaks (SaysNone e asked none) (DoesSay y) = absurd (none t y)
kinds_once c plan past bytes s t det answers speaks (SaysNone e asked none) (SaysNone f also never) = e ∙ sym f
kinds_once c plan past bytes s t det answers speaks (SaysNone e asked none) (WasNotAsked f never) = absurd (never asked)
kinds_once c plan past bytes s t det answers speaks (WasNotAsked e none) (DoesSay y) = absurd (none (says_asked c plan past bytes t y))
kinds_once c plan past bytes s t det answers speaks (WasNotAsked e none) (SaysNone f asked never) = absurd (none asked)
kinds_once c plan past bytes s t det answers speaks (WasNotAsked e none) (WasNotAsked f never) = e ∙ sym f

said_once : (c : ToldCodecs) (plan : PostPlan) (past : List Seen) (bytes : List ℕ) (s t : Said) → AreDetermined c.words → AnswersOnce c.Responds → SpeaksOnce c.Watts → IsSaid c plan past bytes s → IsSaid c plan past bytes t → s ≡ t
said_once c plan past bytes s t det answers speaks x y = kinds_once c plan past bytes s t det answers speaks (kind_of c plan past bytes s x) (kind_of c plan past bytes t y)

-- Steps.

other_once : (c : ToldCodecs) (Share : ℕ → ℕ → Type 0) (post : ToldPost) (act : Act) (taken : Bool) (s t : ToldStep) → AreDetermined c.words → SharesOnce Share → IsOther c Share post act taken s → IsOther c Share post act taken t → s ≡ t
other_once c Share post act taken s t det once x y =
    x.2 ∙ ap (λ (r : Option Reading). Does r act taken) (reading_once c Share post.plan post.steps act x.0 y.0 det once x.1 y.1) ∙ sym y.2

sending_once : (c : ToldCodecs) (Share : ℕ → ℕ → Type 0) (post : ToldPost) (bytes : List ℕ) (taken : Bool) (s t : ToldStep) → AreDetermined c.words → AnswersOnce c.Responds → SpeaksOnce c.Watts → SharesOnce Share → IsSending c Share post bytes taken s → IsSending c Share post bytes taken t → s ≡ t
sending_once c Share post bytes taken s t det answers speaks once x y =
    x.4
    ∙ ap (λ (r : Option Reading). Sends r bytes taken x.1) (reading_once c Share post.plan post.steps (Send bytes) x.0 y.0 det once x.2 y.2)
    ∙ ap (λ (a : Said). Sends y.0 bytes taken a) (said_once c post.plan (seen_in post.steps) bytes x.1 y.1 det answers speaks x.3 y.3)
    ∙ sym y.4

step_once : (c : ToldCodecs) (Share : ℕ → ℕ → Type 0) (post : ToldPost) (act : Act) (taken : Bool) (s t : ToldStep) → AreDetermined c.words → AnswersOnce c.Responds → SpeaksOnce c.Watts → SharesOnce Share → IsStep c Share post act taken s → IsStep c Share post act taken t → s ≡ t
step_once c Share post (Give given) taken s t det answers speaks once x y = other_once c Share post (Give given) taken s t det once x y
step_once c Share post (Send bytes) taken s t det answers speaks once x y = sending_once c Share post bytes taken s t det answers speaks once x y
step_once c Share post (Answer bytes) taken s t det answers speaks once x y = other_once c Share post (Answer bytes) taken s t det once x y
step_once c Share post (End cause) taken s t det answers speaks once x y = other_once c Share post (End cause) taken s t det once x y

-- Posts.

shows_once : (limit : ℕ) (before behind : List ToldPost) → SharesOnce (Shows limit before behind)
shows_once limit before behind asked m n a b =
    let l = level_unique limit (map asked_of before ++ asked ∷ map asked_of behind) a.level b.level a.is_level b.is_level in
    a.least ∙ ap (λ (k : ℕ). min (min asked k) (limit - (sum_by told_of before + sum_by told_of behind))) l ∙ sym b.least

first_post : (p q : ToldPost) (ps qs : List ToldPost) → p ∷ ps ≡ q ∷ qs → p ≡ q
first_post p q ps qs e = cc

later_posts : (p q : ToldPost) (ps qs : List ToldPost) → p ∷ ps ≡ q ∷ qs → ps ≡ qs
later_posts p q ps qs e = cc

split_once : (before other : List ToldPost) (p q : ToldPost) (behind rest : List ToldPost) → length before ≡ length other → before ++ p ∷ behind ≡ other ++ q ∷ rest → (before ≡ other) × (p ≡ q) × (behind ≡ rest)
split_once [] [] p q behind rest l e = (refl, first_post p q behind rest e, later_posts p q behind rest e)
split_once [] (b ∷ bs) p q behind rest l e = absurd (let m : length (b ∷ bs) ≡ suc (length bs) = refl in let n : length {A = ToldPost} [] ≡ 0 = refl in omega (arith, l, m, n))
split_once (b ∷ bs) [] p q behind rest l e = absurd (let m : length (b ∷ bs) ≡ suc (length bs) = refl in let n : length {A = ToldPost} [] ≡ 0 = refl in omega (arith, l, m, n))
split_once (b ∷ bs) (d ∷ ds) p q behind rest l e =
    let i = first_post b d (bs ++ p ∷ behind) (ds ++ q ∷ rest) e in
    let m : length (b ∷ bs) ≡ suc (length bs) = refl in
    let n : length (d ∷ ds) ≡ suc (length ds) = refl in
    let s = split_once bs ds p q behind rest (omega (arith, l, m, n)) (later_posts b d (bs ++ p ∷ behind) (ds ++ q ∷ rest) e) in
    (ap (λ (x : ToldPost). x ∷ bs) i ∙ ap (λ (xs : List ToldPost). d ∷ xs) s.0, s.1, s.2)

same_later : (before other : List ToldPost) (p q : ToldPost) (behind rest : List ToldPost) (s t : ToldStep) → before ≡ other → p ≡ q → behind ≡ rest → s ≡ t
    → before ++ record p { steps = s ∷ p.steps } ∷ behind ≡ other ++ record q { steps = t ∷ q.steps } ∷ rest
same_later before other p q behind rest s t e f g h =
    ap (λ (xs : List ToldPost). xs ++ record p { steps = s ∷ p.steps } ∷ behind) e
    ∙ ap (λ (x : ToldPost). other ++ record x { steps = s ∷ x.steps } ∷ behind) f
    ∙ ap (λ (xs : List ToldPost). other ++ record q { steps = s ∷ q.steps } ∷ xs) g
    ∙ ap (λ (x : ToldStep). other ++ record q { steps = x ∷ q.steps } ∷ rest) h

does_once : (c : ToldCodecs) (limit k : ℕ) (act : Act) (taken : Bool) (earlier a b : List ToldPost) → AreDetermined c.words → AnswersOnce c.Responds → SpeaksOnce c.Watts → OneDoes c limit k act taken earlier a → OneDoes c limit k act taken earlier b → a ≡ b
does_once c limit k act taken earlier a b det answers speaks x y =
    let places : length x.before ≡ length y.before = let p = x.place in let q = y.place in omega (arith, p, q) in
    let s = split_once x.before y.before x.post y.post x.behind y.behind places (sym x.earlier_are ∙ y.earlier_are) in
    let is = subst (λ (xs : List ToldPost). IsStep c (Shows limit xs y.behind) y.post act taken x.step) s.0
    (subst (λ (xs : List ToldPost). IsStep c (Shows limit x.before xs) y.post act taken x.step) s.2
    (subst (λ (p : ToldPost). IsStep c (Shows limit x.before x.behind) p act taken x.step) s.1 x.is)) in
    let step = step_once c (Shows limit y.before y.behind) y.post act taken x.step y.step det answers speaks (shows_once limit y.before y.behind) is y.is in
    x.later_are ∙ same_later x.before y.before x.post y.post x.behind y.behind x.step y.step s.0 s.1 s.2 step ∙ sym y.later_are

later_once : (c : ToldCodecs) (limit k : ℕ) (act : Act) (taken : Bool) (Earlier : List ToldPost → Type 0) (a b : List ToldPost) → AreDetermined c.words → AnswersOnce c.Responds → SpeaksOnce c.Watts → ((p q : List ToldPost) → Earlier p → Earlier q → p ≡ q) → Later c limit k act taken Earlier a → Later c limit k act taken Earlier b → a ≡ b
later_once c limit k act taken Earlier a b det answers speaks one x y =
    does_once c limit k act taken y.0 a b det answers speaks (subst (λ (ps : List ToldPost). OneDoes c limit k act taken ps a) (one x.0 y.0 x.1 y.1) x.2) y.2

pub posts_once : (c : ToldCodecs) → AreDetermined c.words → AnswersOnce c.Responds → SpeaksOnce c.Watts → PostsAreOne c
posts_once c det answers speaks site [] a b x y = x ∙ sym y
posts_once c det answers speaks site (entry.Heard heard bytes ∷ past) a b x y =
    x.2 ∙ ap (hearing (λ k. event_at k heard.what bytes) (max (moment past) heard.at) 1) (posts_once c det answers speaks site past x.0 y.0 x.1 y.1) ∙ sym y.2
posts_once c det answers speaks site (entry.Lost ∷ past) a b x y = posts_once c det answers speaks site past a b x y
posts_once c det answers speaks site (entry.Sent k bytes taken ∷ past) a b x y =
    later_once c site.limit k (Send bytes) taken (ArePosts c site past) a b det answers speaks (λ p q. posts_once c det answers speaks site past p q) x y
posts_once c det answers speaks site (entry.Answered k bytes taken ∷ past) a b x y =
    later_once c site.limit k (Answer bytes) taken (ArePosts c site past) a b det answers speaks (λ p q. posts_once c det answers speaks site past p q) x y
posts_once c det answers speaks site (entry.Drove k given taken ∷ past) a b x y =
    later_once c site.limit k (Give given) taken (ArePosts c site past) a b det answers speaks (λ p q. posts_once c det answers speaks site past p q) x y
posts_once c det answers speaks site (entry.Dialed port taken ∷ past) a b x y = posts_once c det answers speaks site past a b x y
posts_once c det answers speaks site (entry.Ended k cause ∷ past) a b x y =
    later_once c site.limit k (End cause) true (ArePosts c site past) a b det answers speaks (λ p q. posts_once c det answers speaks site past p q) x y

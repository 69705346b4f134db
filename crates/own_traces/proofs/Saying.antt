-- What the bytes say that a station sends: the response or the reply to the first word that has none.
use Rattle.std.proofs.Common.{◌≡◌, ℕ, Bool, true, false, List, ◌∷◌, drop, Option, Some, None, is_some, sym, ap, subst, ◌∙◌, inl, inr, ◌⊎◌}
use Rattle.charge_world.specs.declared.offer.Dialect.{Dialect}
use Rattle.session_words.specs.Codes.{IsOkClass}
use Rattle.session_words.specs.declared.code.Code.{Code}
use Rattle.session_words.specs.declared.plan.PostPlan.{PostPlan}
use Rattle.session_words.specs.declared.word.Reply.{Reply}
use Rattle.session_words.specs.declared.word.Request.{Request}
use Rattle.session_words.specs.declared.word.Word.TheVariants as word
use Rattle.v2gtp_frames.specs.Frames.{frame}
use Rattle.post_spec.specs.Codecs.{Judged, Negotiated, Asked, Codecs}
use Rattle.post_spec.specs.Contactors.{live}
use Rattle.post_spec.specs.Sessions.{session, stream}
use Rattle.post_spec.specs.Spelled.{read_back}
use Rattle.post_spec.specs.Steps.{Seen}
use Rattle.post_spec.specs.Talk.{Exchange, Talks}
use Rattle.post_spec.specs.Words.{HeardWord, Payload, Words}
use Rattle.station_spec.specs.States as states
use Rattle.station_spec.specs.Next.{IsSpoken}
use Rattle.served_sessions.proofs.Bytes.{AreOctets}
use Rattle.opens_have_reasons.proofs.Judging.{words_of}
use Rattle.told_pasts.specs.Checks.{HasFailedCode}
use Rattle.told_pasts.specs.Reading.{IsUnanswered, Says, IsResponse, IsReply, IsSaid}
use Rattle.told_pasts.specs.Spelling.{SpelledWatts, ToldCodecs}
use Rattle.told_pasts.specs.Steps.{Said, Response, Replied, Other, Unasked}
use Rattle.own_traces.specs.Owning.{IsSingle, TellsOwn}
use Rattle.own_traces.proofs.Answering.{IsShut, SpeaksIn, Answering, Responds, Replies, IsSent, one_session}
use Rattle.own_traces.proofs.First.{FirstWord, spoken_is}
use Rattle.own_traces.proofs.Pairs.{dropped_answers}

-- a session that lives, and what it talked about
pub record Lives (c : Codecs) (plan : PostPlan) (past : List Seen) : Type 0 where
  pub es : List Seen
  pub session_is : session past ≡ Some es
  pub octets : AreOctets (stream es)
  pub xs : List Exchange
  pub talks : Talks c plan.dialects.items past xs

pub data SaidSo (c : ToldCodecs) (plan : PostPlan) (past : List Seen) (bytes : List ℕ) : Said → Type 0 where
  WasResponse : (chosen : Option Dialect) (response payload : List ℕ) → FirstWord c.words plan past (Negotiated chosen response) → c.words.Negotiates plan.dialects.items payload (Negotiated chosen response)
      → IsShut None (live past) → bytes ≡ frame response → SaidSo c plan past bytes (Response chosen (is_some chosen))
  WasReply : (request : Request) (d : Dialect) (reply : Reply) (payload : List ℕ) (watts : SpelledWatts) → FirstWord c.words plan past (Asked request) → SpeaksIn c.words plan past d → IsSingle reply.tell → IsOkClass reply.code ⊎ IsShut None (live past)
      → c.words.Encodes d reply payload → bytes ≡ frame payload → c.Watts d payload watts → SaidSo c plan past bytes (Replied request (read_back reply) watts)

-- ---- something is said

pub record Speech (c : ToldCodecs) (plan : PostPlan) (past : List Seen) (bytes : List ℕ) : Type 0 where
  pub said : Said
  pub says : Says c plan past bytes said

first_unanswered : (c : Codecs) (plan : PostPlan) (past es : List Seen) (ws : List HeardWord) (judged : Judged) → session past ≡ Some es → Words c plan.dialects.items (stream es) ws → FirstWord c plan past judged → IsUnanswered c plan.dialects.items past ws (Payload judged)
first_unanswered c plan past es ws judged here w first =
    let f = first es ws here w in
    record { es = es; hearing = record { session_is = here; words_are = w }; rest = f.later; first = f.is }

speech_by : (c : ToldCodecs) (plan : PostPlan) (past : List Seen) (bytes : List ℕ) (ws : List HeardWord) (spoken : states.Spoken) → TellsOwn c → (l : Lives c.words plan past) → Words c.words plan.dialects.items (stream l.es) ws → IsSpoken c.words spoken bytes
    → Answering c.words plan past None (live past) spoken → Speech c plan past bytes
speech_by c plan past bytes ws spoken own l w is (Responds chosen response payload first neg shut) = record {
  said = Response chosen (is_some chosen);
  says = IsResponse ws chosen response response (is_some chosen) (first_unanswered c.words plan past l.es ws (Negotiated chosen response) l.session_is w first) is (own.responds plan.dialects.items payload chosen response neg);
}
speech_by c plan past bytes ws spoken own l w is (Replies request d reply first kind speaks one ok) =
    let watts = own.spells d reply is.0 is.1 one in
    record {
      said = Replied request (read_back reply) watts.0;
      says = IsReply ws request (read_back reply) d is.0 watts.0 (first_unanswered c.words plan past l.es ws (Asked request) l.session_is w first)
          (spoken_is c.words plan past l.es ws l.xs d own.determined l.session_is l.octets l.talks (speaks l.xs l.talks) w) is.2 (own.reads_back d reply is.0 is.1) (dropped_answers request.ask reply.tell ∙ kind) watts.1;
    }

pub speech : (c : ToldCodecs) (plan : PostPlan) (past : List Seen) (bytes : List ℕ) → TellsOwn c → Lives c.words plan past → IsSent c.words plan past bytes → Speech c plan past bytes
speech c plan past bytes own l sent =
    let w = words_of c.words plan.dialects.items (stream l.es) own.judges l.octets in
    speech_by c plan past bytes w.0 sent.spoken own l w.1 sent.is sent.answering

-- ---- and nothing else

heads : (a b : HeardWord) (xs ys : List HeardWord) → a ∷ xs ≡ b ∷ ys → a ≡ b
heads a b xs ys e = cc

first_is : (c : Codecs) (plan : PostPlan) (past : List Seen) (ws : List HeardWord) (w : HeardWord) (judged : Judged) → FirstWord c plan past judged → IsUnanswered c plan.dialects.items past ws w → w ≡ Payload judged
first_is c plan past ws w judged first u =
    let f = first u.es ws u.hearing.session_is u.hearing.words_are in
    heads w (Payload judged) u.rest f.later (sym u.first ∙ f.is)

one_payload : (bytes p q : List ℕ) → bytes ≡ frame p → bytes ≡ frame q → p ≡ q
one_payload bytes p q e f = ap (λ (s : List ℕ). drop 8 s) (sym e ∙ f)

chosen_one : (a b : Option Dialect) (x y : List ℕ) → Payload (Negotiated a x) ≡ Payload (Negotiated b y) → a ≡ b
chosen_one a b x y e = cc

asked_one : (a b : Request) → Payload (Asked a) ≡ Payload (Asked b) → a ≡ b
asked_one a b e = cc

apart : {A : Type 0} (chosen : Option Dialect) (response : List ℕ) (request : Request) → Payload (Negotiated chosen response) ≡ Payload (Asked request) → A
apart chosen response request e = absurd (cc)

dialect_one : (a b : Dialect) → Some a ≡ Some b → a ≡ b
dialect_one a b e = cc

reply_one : (a b : Reply) → Some (word.Reply a) ≡ Some (word.Reply b) → a ≡ b
reply_one a b e = cc

responses : (a b : Option Dialect) (p q : Bool) → a ≡ b → p ≡ q → Response a p ≡ Response b q
responses a b p q e f = cc

replied : (a b : Request) (x y : Reply) (w : SpelledWatts) → a ≡ b → x ≡ y → Replied a x w ≡ Replied b y w
replied a b x y w e f = cc

says_so : (c : ToldCodecs) (plan : PostPlan) (past : List Seen) (bytes : List ℕ) (spoken : states.Spoken) (said : Said) → TellsOwn c → Lives c.words plan past → IsSpoken c.words spoken bytes → Answering c.words plan past None (live past) spoken → Says c plan past bytes said
    → SaidSo c plan past bytes said
says_so c plan past bytes spoken said own l is (Responds chosen response payload first neg shut) (IsResponse ws a x p positive u e r) =
    let head = first_is c.words plan past ws (Payload (Negotiated a x)) (Negotiated chosen response) first u in
    let same = one_payload bytes p response e is in
    let told = own.responds plan.dialects.items payload chosen response neg in
    let sign = own.responds_once response (is_some chosen) positive told (subst (λ (bs : List ℕ). c.Responds bs positive) same r) in
    subst (SaidSo c plan past bytes) (responses chosen a (is_some chosen) positive (sym (chosen_one a chosen x response head)) sign) (WasResponse chosen response payload first neg shut is)
says_so c plan past bytes spoken said own l is (Responds chosen response payload first neg shut) (IsReply ws request reply d p watts u su e reads kind spells) =
    apart chosen response request (sym (first_is c.words plan past ws (Payload (Asked request)) (Negotiated chosen response) first u))
says_so c plan past bytes spoken said own l is (Replies request d reply first kind speaks one ok) (IsResponse ws a x p positive u e r) =
    apart a x request (first_is c.words plan past ws (Payload (Negotiated a x)) (Asked request) first u)
says_so c plan past bytes spoken said own l is (Replies request d reply first kind speaks one ok) (IsReply ws other told spoke p watts u su e reads same_kind spells) =
    let head = asked_one other request (first_is c.words plan past ws (Payload (Asked other)) (Asked request) first u) in
    let es_is : Words c.words plan.dialects.items (stream u.es) ws = u.hearing.words_are in
    let here = one_session past u.es l.es u.hearing.session_is l.session_is in
    let v : Words c.words plan.dialects.items (stream l.es) ws = subst (λ (zs : List Seen). Words c.words plan.dialects.items (stream zs) ws) here es_is in
    let same_dialect = dialect_one spoke d (sym su ∙ spoken_is c.words plan past l.es ws l.xs d own.determined l.session_is l.octets l.talks (speaks l.xs l.talks) v) in
    let same_payload = one_payload bytes p is.0 e is.2 in
    let there : c.words.Reads d is.0 (Some (word.Reply told)) =
    subst (λ (bs : List ℕ). c.words.Reads d bs (Some (word.Reply told))) same_payload (subst (λ (x : Dialect). c.words.Reads x p (Some (word.Reply told))) same_dialect reads) in
    let back = reply_one (read_back reply) told (own.determined.reads d is.0 (Some (word.Reply (read_back reply))) (Some (word.Reply told)) (own.reads_back d reply is.0 is.1) there) in
    let w : c.Watts d is.0 watts = subst (λ (bs : List ℕ). c.Watts d bs watts) same_payload (subst (λ (x : Dialect). c.Watts x p watts) same_dialect spells) in
    subst (SaidSo c plan past bytes) (replied request other (read_back reply) told watts (sym head) back) (WasReply request d reply is.0 watts first speaks one ok is.1 is.2 w)

says_asked : (c : ToldCodecs) (plan : PostPlan) (past : List Seen) (bytes : List ℕ) (said : Said) → Says c plan past bytes said → (ws : List HeardWord) × (w : HeardWord) × IsUnanswered c.words plan.dialects.items past ws w
says_asked c plan past bytes said (IsResponse ws a x p positive u e r) = (ws, Payload (Negotiated a x), u)
says_asked c plan past bytes said (IsReply ws request reply d p watts u su e reads kind spells) = (ws, Payload (Asked request), u)

pub said_so : (c : ToldCodecs) (plan : PostPlan) (past : List Seen) (bytes : List ℕ) (said : Said) → TellsOwn c → Lives c.words plan past → IsSent c.words plan past bytes → IsSaid c plan past bytes said → SaidSo c plan past bytes said
said_so c plan past bytes (Response chosen positive) own l sent is = says_so c plan past bytes sent.spoken (Response chosen positive) own l sent.is sent.answering is
said_so c plan past bytes (Replied request reply watts) own l sent is = says_so c plan past bytes sent.spoken (Replied request reply watts) own l sent.is sent.answering is
said_so c plan past bytes Other own l sent is = let s = speech c plan past bytes own l sent in absurd (is.1 s.said s.says)
said_so c plan past bytes Unasked own l sent is =
    let s = speech c plan past bytes own l sent in
    let a = says_asked c plan past bytes s.said s.says in
    absurd (is a.0 a.1 a.2)

-- ---- what it never is

pub never_nothing : (c : ToldCodecs) (plan : PostPlan) (past : List Seen) (bytes : List ℕ) (said : Said) → SaidSo c plan past bytes said → (said ≡ Other) ⊎ (said ≡ Unasked) → ⊥
never_nothing c plan past bytes said (WasResponse chosen response payload first neg shut e) (inl n) = cc
never_nothing c plan past bytes said (WasResponse chosen response payload first neg shut e) (inr n) = cc
never_nothing c plan past bytes said (WasReply request d reply payload watts first speaks single ok encodes e spells) (inl n) = cc
never_nothing c plan past bytes said (WasReply request d reply payload watts first speaks single ok encodes e spells) (inr n) = cc

not_live : {A : Type 0} (on : Bool) → on ≡ true → IsShut None on → A
not_live on l (inl h) = absurd (cc)
not_live on l (inr h) = absurd (let x : true ≡ false = sym l ∙ h.1 in cc)

ok_or_shut : {A : Type 0} (code : Code) (on : Bool) → on ≡ true → IsOkClass code ⊎ IsShut None on → (IsOkClass code → ⊥) → A
ok_or_shut code on l (inl ok) n = absurd (n ok)
ok_or_shut code on l (inr h) n = not_live on l h

pub never_failed : (c : ToldCodecs) (plan : PostPlan) (past : List Seen) (bytes : List ℕ) (said : Said) → SaidSo c plan past bytes said → live past ≡ true → HasFailedCode said → ⊥
never_failed c plan past bytes said (WasResponse chosen response payload first neg shut e) on failed = not_live (live past) on shut
never_failed c plan past bytes said (WasReply request d reply payload watts first speaks single ok encodes e spells) on failed = ok_or_shut reply.code (live past) on ok failed

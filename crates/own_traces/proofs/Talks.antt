-- All that a station said in a past, and what its sessions talked about then.
use Rattle.std.proofs.Common.{◌≡◌, ℕ, Bool, true, if◌then◌else◌, List, [], ◌∷◌, length, drop, map, Option, Some, None, IsSome, Ok, Err, is_some, refl, sym, ap, subst, ◌∙◌, inl, inr}
use Rattle.charge_world.specs.declared.offer.Dialect.{Dialect}
use Rattle.charge_world.specs.declared.ports.Order.TheVariants as order
use Rattle.session_words.specs.declared.plan.PostPlan.{PostPlan}
use Rattle.session_words.specs.declared.word.Reply.{Reply}
use Rattle.session_words.specs.declared.word.Request.{Request}
use Rattle.session_words.specs.declared.word.Word.{Word}
use Rattle.session_words.specs.declared.word.Word.TheVariants as word
use Rattle.v2gtp_frames.specs.Frames.{frame}
use Rattle.post_spec.specs.Codecs.{Judged, Negotiated, Asked, Codecs, Judges, judged_word}
use Rattle.post_spec.specs.Sessions.{arriving, session, stream}
use Rattle.post_spec.specs.Spelled.{read_back, AreDetermined, JudgesAll}
use Rattle.post_spec.specs.Steps.{Reading, Act, Give, Send, Answer, End, Seen, Did, Step, Hears, Does, seen_of}
use Rattle.post_spec.specs.Talk.{Exchange, Negotiation, Answered, IsExchange, InSession, OneMore, Unless, Talks}
use Rattle.post_spec.specs.Words.{HeardWord, Payload, IsPayloadAt}
use Rattle.station_laws.specs.PostRuns.{IsPostRun}
use Rattle.read_runs.proofs.Counting.{counted}
use Rattle.silent_runs.specs.Silent.{IsSilent}
use Rattle.coming_causes_open.proofs.Spoken.{spoke, same_payload, FaultAt, WordAt, DialectAt, word_at}
use Rattle.served_sessions.proofs.Bytes.{AreHeard}
use Rattle.next_words.specs.Next.{AreReadInOrder}
use Rattle.opens_have_reasons.proofs.Judging.{words_of}
use Rattle.told_pasts.specs.Spelling.{ToldCodecs}
use Rattle.told_pasts.specs.Steps as told
use Rattle.told_pasts.specs.Steps.{Said, Response, Replied, Other, Unasked, ToldStep, Sends, seen_in}
use Rattle.told_pasts.specs.Talk.{Reply as ToldReply, exchange_by, exchange_of, replies, talk, with_said, judged_by, judged_over}
use Rattle.own_traces.proofs.Told.{IsToldRun}
use Rattle.own_traces.specs.Owning.{TellsOwn}
use Rattle.own_traces.proofs.First.{FirstWord}
use Rattle.own_traces.proofs.Pasts.{IsClosed, Still, Opened, OwnPast}
use Rattle.own_traces.proofs.Saying.{Lives, SaidSo, WasResponse, WasReply, said_so}
use Rattle.own_traces.proofs.Sending.{sending_by}

-- ---- each sending says what the station had to say

abbrev pub AllSaid : ToldCodecs → PostPlan → List ToldStep → Type 0
AllSaid c plan [] = Unit {0}
AllSaid c plan (told.Hears at event ∷ steps) = AllSaid c plan steps
AllSaid c plan (told.Does reading act taken ∷ steps) = AllSaid c plan steps
AllSaid c plan (Sends reading bytes taken said ∷ steps) = AllSaid c plan steps × Lives c.words plan (seen_in steps) × SaidSo c plan (seen_in steps) bytes said

said_along : (c : ToldCodecs) (plan : PostPlan) (old : List ToldStep) (steps : List Step) → TellsOwn c → IsToldRun c plan old → seen_in old ≡ map seen_of steps → IsPostRun c.words plan steps → AreReadInOrder c.words plan steps → IsSilent (map seen_of steps) → AreHeard (map seen_of steps)
    → AllSaid c plan old
said_along c plan [] steps own run same post order silent heard = tt
said_along c plan (told.Hears at event ∷ old) [] own run same post order silent heard = cc
said_along c plan (told.Hears at event ∷ old) (Hears at' event' ∷ steps) own run same post order silent heard =
    let rest : seen_in old ≡ map seen_of steps = cc in
    said_along c plan old steps own run rest post.0 order silent heard.0
said_along c plan (told.Hears at event ∷ old) (Does r act taken ∷ steps) own run same post order silent heard = cc
said_along c plan (told.Does r act taken ∷ old) [] own run same post order silent heard = cc
said_along c plan (told.Does r act taken ∷ old) (Hears at event ∷ steps) own run same post order silent heard = cc
said_along c plan (told.Does r act taken ∷ old) (Does q act' taken' ∷ steps) own run same post order silent heard =
    let rest : seen_in old ≡ map seen_of steps = cc in
    said_along c plan old steps own run.0 rest post.0 order.0 silent.0 heard
said_along c plan (Sends r bytes taken said ∷ old) [] own run same post order silent heard = cc
said_along c plan (Sends r bytes taken said ∷ old) (Hears at event ∷ steps) own run same post order silent heard = cc
said_along c plan (Sends r bytes taken said ∷ old) (Does q act taken' ∷ steps) own run same post order silent heard =
    let rest : seen_in old ≡ map seen_of steps = cc in
    let sent : Did (Send bytes) taken ≡ Did act taken' = cc in
    let act_is : act ≡ Send bytes = cc in
    let s = sending_by c.words plan (seen_in old) bytes taken' q steps own.reads_back own.determined own.negotiates_first rest (subst (λ (a : Act). IsPostRun c.words plan (Does q a taken' ∷ steps)) act_is post)
    (subst AreHeard (sym rest) heard) (subst (λ (a : Act). AreReadInOrder c.words plan (Does q a taken' ∷ steps)) act_is order)
    (subst (λ (xs : List Seen). IsSome (session xs)) (sym rest) (subst (λ (a : Act). IsSilent (Did a taken' ∷ map seen_of steps)) act_is silent).1) in
    (said_along c plan old steps own run.0 rest post.0 order.0 silent.0 heard, s.lives, said_so c plan (seen_in old) bytes said own s.lives s.sent run.2)

not_did : (act : Act) (taken : Bool) (xs : List Seen) → [] ≡ Did act taken ∷ xs → ⊥
not_did act taken xs e = cc

opened_said : (c : ToldCodecs) (plan : PostPlan) (old : List ToldStep) (taken : Bool) (blocks : List Seen) → TellsOwn c → IsToldRun c plan old → seen_in old ≡ Did (Give order.Open) taken ∷ blocks → ((steps : List ToldStep) → IsToldRun c plan steps → seen_in steps ≡ blocks → AllSaid c plan steps)
    → AllSaid c plan old
opened_said c plan [] taken blocks own run same rest = cc
opened_said c plan (told.Hears at event ∷ old) taken blocks own run same rest = cc
opened_said c plan (told.Does r act done ∷ old) taken blocks own run same rest = let e : seen_in old ≡ blocks = cc in rest old run.0 e
opened_said c plan (Sends r bytes done said ∷ old) taken blocks own run same rest = absurd (let x : Did (Send bytes) done ≡ Did (Give order.Open) taken = cc in cc)

said_closed : (c : ToldCodecs) (plan : PostPlan) (old : List ToldStep) → TellsOwn c → IsToldRun c plan old → (o : OwnPast c.words plan (seen_in old)) → IsClosed plan o.steps (seen_in old) → AllSaid c plan old
said_closed c plan old own run o (Still same) = said_along c plan old o.steps own run same o.run o.ordered o.silent o.heard
said_closed c plan old own run o (Opened taken same quiet) =
    opened_said c plan old taken (map seen_of o.steps) own run same (λ steps older is. said_along c plan steps o.steps own older is o.run o.ordered o.silent o.heard)

pub all_said : (c : ToldCodecs) (plan : PostPlan) (old : List ToldStep) → TellsOwn c → IsToldRun c plan old → OwnPast c.words plan (seen_in old) → AllSaid c plan old
all_said c plan old own run o = said_closed c plan old own run o o.closed

-- ---- so the talk that is told is the one of the past

no_word : (n : ℕ) (bytes : List ℕ) (w : HeardWord) (payload : List ℕ) → IsPayloadAt bytes n payload → FaultAt bytes n w → ⊥
no_word n bytes w payload p f = let x : Ok (Some p.count) ≡ Err f.fault = sym p.whole ∙ f.at in cc

heads : (a b : Judged) → Payload a ≡ Payload b → a ≡ b
heads a b e = cc

-- the payload at the place of the first word without a reply is judged as that word
judged_there : (c : Codecs) (offers : List Dialect) (bytes : List ℕ) (n : ℕ) (d : Option Dialect) (payload : List ℕ) (judged : Judged) → IsPayloadAt bytes n payload → WordAt c offers bytes n d (Payload judged) → Judges c offers d payload judged
judged_there c offers bytes n d payload judged p (inl f) = absurd (no_word n bytes (Payload judged) payload p f)
judged_there c offers bytes n d payload judged p (inr x) =
    let same = same_payload bytes n x.payload payload x.at p in
    subst (λ (bs : List ℕ). Judges c offers d bs judged) same (subst (λ (j : Judged). Judges c offers d x.payload j) (sym (heads judged x.judged x.word_is)) x.by)

place_there : (c : Codecs) (plan : PostPlan) (past : List Seen) (l : Lives c plan past) (judged : Judged) (xs : List Exchange) (d : Option Dialect) (payload : List ℕ) → AreDetermined c → JudgesAll c → FirstWord c plan past judged → Talks c plan.dialects.items past xs
    → DialectAt c plan.dialects.items (stream l.es) (length xs) d → IsPayloadAt (stream l.es) (length xs) payload → Judges c plan.dialects.items d payload judged
place_there c plan past l judged xs d payload det all first talks at place =
    let w = words_of c plan.dialects.items (stream l.es) all l.octets in
    let f = first l.es w.0 l.session_is w.1 in
    let n = counted c plan.dialects.items past l.es xs l.session_is talks in
    let here : drop (length xs) w.0 ≡ Payload judged ∷ f.later = ap (λ (i : ℕ). drop i w.0) (sym n) ∙ f.is in
    judged_there c plan.dialects.items (stream l.es) (length xs) d payload judged place
    (word_at c plan.dialects.items (stream l.es) w.0 f.later (length xs) d (Payload judged) det w.1 at here)

not_negotiated : (chosen : Option Dialect) (response : List ℕ) (w : Option Word) → Negotiated chosen response ≡ judged_word w → ⊥
not_negotiated chosen response None e = cc
not_negotiated chosen response (Some (word.Request q)) e = cc
not_negotiated chosen response (Some (word.Reply reply)) e = cc
not_negotiated chosen response (Some word.Nothing) e = cc

asked_is : (r : Request) (w : Option Word) → Asked r ≡ judged_word w → w ≡ Some (word.Request r)
asked_is r None e = cc
asked_is r (Some (word.Request q)) e = let s : r ≡ q = cc in ap (λ (x : Request). Some (word.Request x)) (sym s)
asked_is r (Some (word.Reply reply)) e = cc
asked_is r (Some word.Nothing) e = cc

chosen_same : (a b : Option Dialect) (x y : List ℕ) → Negotiated a x ≡ Negotiated b y → a ≡ b
chosen_same a b x y e = cc

request_same : (a b : Request) → Some (word.Request a) ≡ Some (word.Request b) → a ≡ b
request_same a b e = cc

reply_same : (a b : Reply) → Some (word.Reply a) ≡ Some (word.Reply b) → a ≡ b
reply_same a b e = cc

dialect_same : (a b : Dialect) → Some a ≡ Some b → a ≡ b
dialect_same a b e = cc

positive_chosen : (chosen : Option Dialect) → (if is_some chosen then chosen else None) ≡ chosen
positive_chosen None = refl
positive_chosen (Some d) = refl

frames_same : (bytes p q : List ℕ) → bytes ≡ frame p → bytes ≡ frame q → p ≡ q
frames_same bytes p q e f = ap (λ (s : List ℕ). drop 8 s) (sym e ∙ f)

exchange_is : (c : ToldCodecs) (plan : PostPlan) (past : List Seen) (bytes : List ℕ) (said : Said) (xs : List Exchange) (newest : Exchange) → TellsOwn c → (l : Lives c.words plan past) → Talks c.words plan.dialects.items past xs → SaidSo c plan past bytes said
    → IsExchange c.words plan.dialects.items (stream l.es) xs bytes past newest → newest ≡ exchange_by said past
exchange_is c plan past bytes said [] (Negotiation a) own l talks (WasResponse chosen response payload first neg shut e) is =
    let j = place_there c.words plan past l (Negotiated chosen response) [] None is.payload own.determined own.judges first talks refl is.first in
    let one = own.determined.negotiates plan.dialects.items is.payload (Negotiated a is.response) (Negotiated chosen response) is.judged j in
    ap Negotiation (chosen_same a chosen is.response response one ∙ sym (positive_chosen chosen))
exchange_is c plan past bytes said [] (Negotiation a) own l talks (WasReply request d reply payload watts first speaks single ok encodes e spells) is =
    let j = place_there c.words plan past l (Asked request) [] None is.payload own.determined own.judges first talks refl is.first in
    absurd (own.negotiates_first plan.dialects.items is.payload request j)
exchange_is c plan past bytes said [] (Answered request reply before) own l talks s is = absurd is
exchange_is c plan past bytes said (x ∷ xs) (Negotiation a) own l talks s is = absurd is
exchange_is c plan past bytes said (x ∷ xs) (Answered asked answer before) own l talks (WasResponse chosen response payload first neg shut e) is =
    let a = is.0 in
    let at : DialectAt c.words plan.dialects.items (stream l.es) (length (x ∷ xs)) (Some a.spoken) = (a.spoken, refl, spoke c.words plan.dialects.items past l.es (x ∷ xs) a.spoken l.session_is talks a.dialect_is) in
    let j = place_there c.words plan past l (Negotiated chosen response) (x ∷ xs) (Some a.spoken) a.payload own.determined own.judges first talks at a.asked in
    absurd (not_negotiated chosen response j.0 j.2)
exchange_is c plan past bytes said (x ∷ xs) (Answered asked answer before) own l talks (WasReply request d reply payload watts first speaks single ok encodes e spells) is =
    let a = is.0 in
    let at : DialectAt c.words plan.dialects.items (stream l.es) (length (x ∷ xs)) (Some a.spoken) = (a.spoken, refl, spoke c.words plan.dialects.items past l.es (x ∷ xs) a.spoken l.session_is talks a.dialect_is) in
    let j = place_there c.words plan past l (Asked request) (x ∷ xs) (Some a.spoken) a.payload own.determined own.judges first talks at a.asked in
    let read = own.determined.reads a.spoken a.payload (Some (word.Request asked)) (Some (word.Request request)) a.request_is (subst (λ (w : Option Word). c.words.Reads a.spoken a.payload w) (asked_is request j.0 j.2) j.1) in
    let d_is : d ≡ a.spoken = dialect_same d a.spoken (sym (speaks (x ∷ xs) talks) ∙ a.dialect_is) in
    let text = frames_same bytes a.text payload a.bytes_are e in
    let back : c.words.Reads a.spoken payload (Some (word.Reply (read_back reply))) = subst (λ (y : Dialect). c.words.Reads y payload (Some (word.Reply (read_back reply)))) d_is (own.reads_back d reply payload encodes) in
    let here : c.words.Reads a.spoken payload (Some (word.Reply answer)) = subst (λ (bs : List ℕ). c.words.Reads a.spoken bs (Some (word.Reply answer))) text a.reply_is in
    let one = reply_same answer (read_back reply) (own.determined.reads a.spoken payload (Some (word.Reply answer)) (Some (word.Reply (read_back reply))) here back) in
    ap (λ (r : Request). Answered r answer before) (request_same asked request read) ∙ ap (λ (y : Reply). Answered request y before) one ∙ ap (λ (ys : List Seen). Answered request (read_back reply) ys) is.1

-- what was said to a word counts as a reply
counts_reply : (c : ToldCodecs) (plan : PostPlan) (past before judged : List Seen) (bytes : List ℕ) (said : Said) (rs : List ToldReply) → SaidSo c plan past bytes said → with_said said before judged rs ≡ record { said = said; before = before; judged = judged } ∷ rs
counts_reply c plan past before judged bytes said rs (WasResponse chosen response payload first neg shut e) = refl
counts_reply c plan past before judged bytes said rs (WasReply request d reply payload watts first speaks single ok encodes e spells) = refl

pub sent_replies : (c : ToldCodecs) (plan : PostPlan) (r : Option Reading) (bytes : List ℕ) (taken : Bool) (said : Said) (steps : List ToldStep) → Lives c.words plan (seen_in steps) → SaidSo c plan (seen_in steps) bytes said
    → replies (Sends r bytes taken said ∷ steps) ≡ record { said = said; before = seen_in steps; judged = judged_by r (seen_in steps) (judged_over steps) } ∷ replies steps
sent_replies c plan r bytes taken said steps l s =
    let n : is_some (session (seen_in steps)) ≡ true = ap is_some l.session_is in
    let shown = counts_reply c plan (seen_in steps) (seen_in steps) (judged_by r (seen_in steps) (judged_over steps)) bytes said (replies steps) s in
    ap (λ (b : Bool). if b then with_said said (seen_in steps) (judged_by r (seen_in steps) (judged_over steps)) (replies steps) else []) n ∙ shown

unless_some : (o : Option Seen) (T : List Exchange → Type 0) (xs : List Exchange) (rs : List ToldReply) → (T xs → map exchange_of rs ≡ xs) → Unless o (T xs) (xs ≡ []) → map exchange_of (if is_some o then [] else rs) ≡ xs
unless_some None T xs rs same t = same t
unless_some (Some came) T xs rs same t = sym t

more_of : (c : ToldCodecs) (plan : PostPlan) (past : List Seen) (bytes : List ℕ) (taken : Bool) (xs : List Exchange) (l : Lives c.words plan past) → Talks c.words plan.dialects.items (Did (Send bytes) taken ∷ past) xs
    → OneMore c.words plan.dialects.items l.es past bytes (Talks c.words plan.dialects.items past) xs
more_of c plan past bytes taken xs l talks =
    subst (λ (o : Option (List Seen)). InSession o (λ es. OneMore c.words plan.dialects.items es past bytes (Talks c.words plan.dialects.items past) xs) (xs ≡ [])) l.session_is talks

pub talk_is : (c : ToldCodecs) (plan : PostPlan) (steps : List ToldStep) (xs : List Exchange) → TellsOwn c → IsToldRun c plan steps → AllSaid c plan steps → Talks c.words plan.dialects.items (seen_in steps) xs → talk steps ≡ xs
talk_is c plan [] xs own run all talks = sym talks
talk_is c plan (told.Hears at event ∷ steps) xs own run all talks =
    unless_some (arriving (seen_in steps)) (Talks c.words plan.dialects.items (seen_in steps)) xs (replies steps) (λ t. talk_is c plan steps xs own run all t) talks
talk_is c plan (told.Does r (Give o) taken ∷ steps) xs own run all talks = talk_is c plan steps xs own run.0 all talks
talk_is c plan (told.Does r (Send bytes) taken ∷ steps) xs own run all talks = absurd run.2
talk_is c plan (told.Does r (Answer bytes) taken ∷ steps) xs own run all talks = talk_is c plan steps xs own run.0 all talks
talk_is c plan (told.Does r (End cause) taken ∷ steps) xs own run all talks = sym talks
talk_is c plan (Sends r bytes taken said ∷ steps) xs own run all talks =
    let m = more_of c plan (seen_in steps) bytes taken xs all.1 talks in
    let rest = talk_is c plan steps m.earlier own run.0 all.0 m.before in
    let newest = exchange_is c plan (seen_in steps) bytes said m.earlier m.newest own all.1 m.before all.2 m.is in
    ap (map exchange_of) (sent_replies c plan r bytes taken said steps all.1 all.2)
    ∙ ap (λ (x : Exchange). x ∷ talk steps) (sym newest) ∙ ap (λ (ys : List Exchange). m.newest ∷ ys) rest ∙ sym m.xs_are

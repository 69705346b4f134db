-- What bytes say to the first word without a reply.
use Rattle.std.proofs.Common.{◌≡◌, ◌<◌, ℕ, ◌+◌, ◌∙◌, sym, ap, subst, refl, drop, Bool, true, false, List, [], ◌++◌, length, Option, Some, None, Result, Ok, Err, MatchBool, inl, inr, ◌⊎◌, arith}
use Rattle.std.specs.Prelude.{All}
use Rattle.std.proofs.lemmas.Bool.{eqb-true, eqb-false}
use Rattle.std.proofs.lemmas.List.{append-nil, drop_all, take_all, length-drop}
use Rattle.charge_world.specs.declared.offer.Dialect.{Dialect}
use Rattle.session_words.specs.declared.plan.PostPlan.{PostPlan}
use Rattle.session_words.specs.declared.word.Reply.{Reply}
use Rattle.session_words.specs.declared.word.Request.{Request}
use Rattle.session_words.specs.declared.word.Word.TheVariants as word
use Rattle.v2gtp_frames.specs.declared.FrameFault.{FrameFault}
use Rattle.v2gtp_frames.specs.Frames.{frame, IsPayload}
use Rattle.v2gtp_frames.specs.Reading.{whole_at, payload_at}
use Rattle.v2gtp_frames.proofs.Again.{again, is_frame}
use Rattle.v2gtp_frames.proofs.Growing.{whole_fits}
use Rattle.car_rules.specs.Replies.{answers}
use Rattle.post_spec.specs.Codecs.{Negotiated, Asked, WrongSide, Refused}
use Rattle.post_spec.specs.Spelled.{AreDetermined}
use Rattle.post_spec.specs.Steps.{Seen}
use Rattle.post_spec.specs.Words.{HeardWord, Payload, Fault}
use Rattle.told_pasts.specs.Reading.{IsUnanswered, Says, IsResponse as ResponseIs, IsReply as ReplyIs, IsSaid, spoken_in}
use Rattle.told_pasts.specs.Spelling.{SpelledWatts, ToldCodecs}
use Rattle.told_pasts.specs.Steps as steps
use Rattle.audit_streams.specs.declared.reader.ToldWatts.{ToldWatts}
use Rattle.audit_streams.specs.declared.reader.ToldWord.{ToldWord}
use Rattle.audit_streams.specs.declared.reader.ToldWord.TheVariants as told
use Rattle.audit_streams.specs.Streams.{IsAsked, IsTold, TellsFirst, TellsSpoken}
use Rattle.audit_streams.specs.Words.{SpeaksOnce}
use Rattle.audit_readings.specs.declared.replies.ToldReply.{ToldReply}
use Rattle.audit_readings.specs.declared.replies.ToldSaid.{ToldSaid}
use Rattle.audit_readings.specs.declared.replies.ToldSaid.TheVariants.{Response, Replied, Other, Unasked}
use Rattle.audit_readings.specs.Saying.{IsFrame, IsNoFrame, fills, IsResponse, IsReply, ResponseTo, ReplyTo, SaysTo, IsSame, SaidSo}

pub frame_payload : (bytes payload : List ℕ) → bytes ≡ frame payload → drop 8 bytes ≡ payload
frame_payload bytes payload e = ap (λ (s : List ℕ). drop 8 s) e

frame_long : (bytes payload : List ℕ) → bytes ≡ frame payload → length bytes ≡ 8 + length payload
frame_long bytes payload e = let l : length bytes ≡ length (frame payload) = ap length e in omega (arith, l)

whole_frame : (bytes payload : List ℕ) → IsPayload payload → bytes ≡ frame payload → whole_at bytes ≡ Ok (Some (length payload))
whole_frame bytes payload short e = ap whole_at (e ∙ sym (append-nil (frame payload))) ∙ again payload [] short

abbrev found : ℕ → Result (Option ℕ) FrameFault
found n = Ok (Some n)

abbrev waits : Result (Option ℕ) FrameFault
waits = Ok None

abbrev wrong : FrameFault → Result (Option ℕ) FrameFault
wrong fault = Err fault

found_same : (n m : ℕ) → found n ≡ found m → n ≡ m
found_same n m e = cc

long_frame : (bytes : List ℕ) (n : ℕ) → All (λ byte. byte < 256) bytes → whole_at bytes ≡ Ok (Some n) → length bytes ≡ 8 + n → IsFrame bytes
long_frame bytes n octets w e =
    let fits = whole_fits bytes n w in
    let rest : length (drop 8 bytes) ≡ n = let l = length-drop 8 bytes in omega (arith, l, e) in
    let payload : payload_at n bytes ≡ drop 8 bytes = take_all n (drop 8 bytes) (omega (arith, rest)) in
    record {
      short = omega (arith, rest, fits.short);
      whole = is_frame bytes n octets w
          ∙ ap (λ (s : List ℕ). frame (payload_at n bytes) ++ s) (drop_all (8 + n) bytes (omega (arith, e)))
          ∙ append-nil (frame (payload_at n bytes))
          ∙ ap frame payload;
    }

pub frame_by : (bytes : List ℕ) (r : Result (Option ℕ) FrameFault) (b : Bool) → All (λ byte. byte < 256) bytes → whole_at bytes ≡ r → b ≡ fills r (length bytes) → MatchBool b (IsFrame bytes) (IsNoFrame bytes)
frame_by bytes (Ok None) true octets w e = cc
frame_by bytes (Ok None) false octets w e = λ payload short f. absurd (let x : waits ≡ found (length payload) = sym w ∙ whole_frame bytes payload short f in cc)
frame_by bytes (Err fault) true octets w e = cc
frame_by bytes (Err fault) false octets w e = λ payload short f. absurd (let x : wrong fault ≡ found (length payload) = sym w ∙ whole_frame bytes payload short f in cc)
frame_by bytes (Ok (Some n)) true octets w e = long_frame bytes n octets w (eqb-true (length bytes) (8 + n) (sym e))
frame_by bytes (Ok (Some n)) false octets w e = λ payload short f.
    let k : n ≡ length payload = found_same n (length payload) (sym w ∙ whole_frame bytes payload short f) in
    let l = frame_long bytes payload f in
    eqb-false (length bytes) (8 + n) (sym e) (omega (arith, k, l))

-- One reply.

reply_same : (a b : Reply) → Some (word.Reply a) ≡ Some (word.Reply b) → a ≡ b
reply_same a b e = cc

-- What the definitions say.

record SaysResponse (c : ToldCodecs) (plan : PostPlan) (past : List Seen) (bytes : List ℕ) (said : steps.Said) : Type 0 where
  words : List HeardWord
  chosen : Option Dialect
  own : List ℕ
  payload : List ℕ
  positive : Bool
  is : IsUnanswered c.words plan.dialects.items past words (Payload (Negotiated chosen own))
  bytes_are : bytes ≡ frame payload
  responds : c.Responds payload positive
  said_is : said ≡ steps.Response chosen positive

record SaysReply (c : ToldCodecs) (plan : PostPlan) (past : List Seen) (bytes : List ℕ) (said : steps.Said) : Type 0 where
  words : List HeardWord
  request : Request
  reply : Reply
  spoken : Dialect
  payload : List ℕ
  spelled : SpelledWatts
  is : IsUnanswered c.words plan.dialects.items past words (Payload (Asked request))
  spoken_is : spoken_in words ≡ Some spoken
  bytes_are : bytes ≡ frame payload
  reads : c.words.Reads spoken payload (Some (word.Reply reply))
  kind : answers request.ask reply.tell ≡ true
  spells : c.Watts spoken payload spelled
  said_is : said ≡ steps.Replied request reply spelled

says_so : (c : ToldCodecs) (plan : PostPlan) (past : List Seen) (bytes : List ℕ) (said : steps.Said) → Says c plan past bytes said → SaysResponse c plan past bytes said ⊎ SaysReply c plan past bytes said
says_so c plan past bytes said (ResponseIs words chosen own payload positive is bytes_are responds) =
    inl (record { words = words; chosen = chosen; own = own; payload = payload; positive = positive; is = is; bytes_are = bytes_are; responds = responds; said_is = refl })
says_so c plan past bytes said (ReplyIs words request reply spoken payload spelled is spoken_is bytes_are reads kind spells) =
    inr (record { words = words; request = request; reply = reply; spoken = spoken; payload = payload; spelled = spelled; is = is; spoken_is = spoken_is; bytes_are = bytes_are; reads = reads; kind = kind; spells = spells; said_is = refl })

says_asked : (c : ToldCodecs) (plan : PostPlan) (past : List Seen) (bytes : List ℕ) (said : steps.Said) → Says c plan past bytes said → IsAsked c.words plan.dialects.items past
says_asked c plan past bytes said s = elim (says_so c plan past bytes said s) [
  | inl r ↦ (r.words, Payload (Negotiated r.chosen r.own), r.is)
  | inr r ↦ (r.words, Payload (Asked r.request), r.is)
]

-- no word has no reply
none_asked : (c : ToldCodecs) (plan : PostPlan) (past : List Seen) (bytes : List ℕ) (other : steps.Said) → (IsAsked c.words plan.dialects.items past → ⊥) → IsSaid c plan past bytes other → other ≡ steps.Unasked
none_asked c plan past bytes (steps.Response chosen positive) none is = absurd (none (says_asked c plan past bytes (steps.Response chosen positive) is))
none_asked c plan past bytes (steps.Replied request reply spelled) none is = absurd (none (says_asked c plan past bytes (steps.Replied request reply spelled) is))
none_asked c plan past bytes steps.Other none is = absurd (none is.0)
none_asked c plan past bytes steps.Unasked none is = refl

unasked_so : (c : ToldCodecs) (plan : PostPlan) (watts : ToldWatts) (past : List Seen) (bytes : List ℕ) (kept : Option ToldWord) (found : ToldSaid) → (IsAsked c.words plan.dialects.items past → ⊥) → found ≡ Unasked → SaidSo c plan watts past bytes kept found
unasked_so c plan watts past bytes kept found none e = record {
  said = steps.Unasked;
  same = subst (λ (x : ToldSaid). IsSame plan watts kept x steps.Unasked) (sym e) refl;
  is = λ words word u. none (words, word, u);
  only = λ other is. none_asked c plan past bytes other none is;
}

-- what is said says nothing to the word
other_only : (c : ToldCodecs) (plan : PostPlan) (past : List Seen) (bytes : List ℕ) (kept : ToldWord) (other : steps.Said) → IsTold c.words plan.dialects.items past kept → ((said : steps.Said) → Says c plan past bytes said → ⊥) → IsSaid c plan past bytes other → other ≡ steps.Other
other_only c plan past bytes kept (steps.Response chosen positive) t none is = absurd (none (steps.Response chosen positive) is)
other_only c plan past bytes kept (steps.Replied request reply spelled) t none is = absurd (none (steps.Replied request reply spelled) is)
other_only c plan past bytes kept steps.Other t none is = refl
other_only c plan past bytes kept steps.Unasked t none is = absurd (is t.words t.word t.is)

other_so : (c : ToldCodecs) (plan : PostPlan) (watts : ToldWatts) (past : List Seen) (bytes : List ℕ) (kept : ToldWord) (o : Option ToldWord) (found : ToldSaid) → IsTold c.words plan.dialects.items past kept → ((said : steps.Said) → Says c plan past bytes said → ⊥) → found ≡ Other → SaidSo c plan watts past bytes o found
other_so c plan watts past bytes kept o found t none e = record {
  said = steps.Other;
  same = subst (λ (x : ToldSaid). IsSame plan watts o x steps.Other) (sym e) refl;
  is = ((t.words, t.word, t.is), none);
  only = λ other is. other_only c plan past bytes kept other t none is;
}

-- a word that nothing answers
none_says : (c : ToldCodecs) (plan : PostPlan) (past : List Seen) (bytes : List ℕ) (kept : ToldWord) (word : HeardWord) → (t : IsTold c.words plan.dialects.items past kept) → t.word ≡ word
    → ((chosen : Option Dialect) (own : List ℕ) → Payload (Negotiated chosen own) ≡ word → ⊥) → ((request : Request) → Payload (Asked request) ≡ word → ⊥) → (said : steps.Said) → Says c plan past bytes said → ⊥
none_says c plan past bytes kept word t e first later said s = elim (says_so c plan past bytes said s) [
  | inl r ↦ first r.chosen r.own (t.only r.words (Payload (Negotiated r.chosen r.own)) r.is ∙ e)
  | inr r ↦ later r.request (t.only r.words (Payload (Asked r.request)) r.is ∙ e)
]

-- The word is a request of the negotiation.

response_chosen : (a b : Option Dialect) (x y : List ℕ) → Payload (Negotiated a x) ≡ Payload (Negotiated b y) → a ≡ b
response_chosen a b x y e = cc

same_response : (a b : Option Dialect) (p q : Bool) (said : steps.Said) → said ≡ steps.Response a p → a ≡ b → p ≡ q → said ≡ steps.Response b q
same_response a b p q said e f g = cc

negotiated_says : (c : ToldCodecs) (plan : PostPlan) (past : List Seen) (bytes : List ℕ) (chosen : Option Dialect) (t : IsTold c.words plan.dialects.items past (told.Negotiated chosen)) (said : steps.Said) (Is : Bool → Type 0)
    → ((payload : List ℕ) (positive : Bool) → bytes ≡ frame payload → c.Responds payload positive → Is positive) → Says c plan past bytes said → (positive : Bool) × Is positive × (said ≡ steps.Response chosen positive)
negotiated_says c plan past bytes chosen t said Is f s = elim (says_so c plan past bytes said s) [
  | inl r ↦ (
    r.positive,
    f r.payload r.positive r.bytes_are r.responds,
    same_response r.chosen chosen r.positive r.positive said r.said_is
        (response_chosen r.chosen chosen r.own t.kept_is.0 (t.only r.words (Payload (Negotiated r.chosen r.own)) r.is ∙ t.kept_is.1)) refl,
  )
  | inr r ↦ absurd (let x : Payload (Asked r.request) ≡ Payload (Negotiated chosen t.kept_is.0) = t.only r.words (Payload (Asked r.request)) r.is ∙ t.kept_is.1 in cc)
]

negotiated_only : (c : ToldCodecs) (plan : PostPlan) (past : List Seen) (bytes : List ℕ) (chosen : Option Dialect) (positive : Bool) (other : steps.Said) → (t : IsTold c.words plan.dialects.items past (told.Negotiated chosen)) → IsResponse c.Responds bytes positive → Says c plan past bytes (steps.Response chosen positive) → IsSaid c plan past bytes other → other ≡ steps.Response chosen positive
negotiated_only c plan past bytes chosen positive (steps.Response a p) t r own is =
    let n = negotiated_says c plan past bytes chosen t (steps.Response a p) (λ q. q ≡ positive)
    (λ payload q e s. r.once q (subst (λ (x : List ℕ). c.Responds x q) (sym (frame_payload bytes payload e)) s)) is in
    n.2 ∙ ap (λ (q : Bool). steps.Response chosen q) n.1
negotiated_only c plan past bytes chosen positive (steps.Replied request reply spelled) t r own is =
    let n = negotiated_says c plan past bytes chosen t (steps.Replied request reply spelled) (λ q. q ≡ positive)
    (λ payload q e s. r.once q (subst (λ (x : List ℕ). c.Responds x q) (sym (frame_payload bytes payload e)) s)) is in
    n.2 ∙ ap (λ (q : Bool). steps.Response chosen q) n.1
negotiated_only c plan past bytes chosen positive steps.Other t r own is = absurd (is.1 (steps.Response chosen positive) own)
negotiated_only c plan past bytes chosen positive steps.Unasked t r own is = absurd (is t.words t.word t.is)

negotiated_so : (c : ToldCodecs) (plan : PostPlan) (watts : ToldWatts) (past : List Seen) (bytes : List ℕ) (chosen : Option Dialect) (found : ToldSaid) → IsTold c.words plan.dialects.items past (told.Negotiated chosen) → ResponseTo c chosen bytes found → SaidSo c plan watts past bytes (Some (told.Negotiated chosen)) found
negotiated_so c plan watts past bytes chosen (Response own positive) t (e, r) =
    let u = subst (IsUnanswered c.words plan.dialects.items past t.words) t.kept_is.1 t.is in
    let says : Says c plan past bytes (steps.Response chosen positive) = ResponseIs t.words chosen t.kept_is.0 (drop 8 bytes) positive u r.frame.whole r.responds in
    record {
      said = steps.Response chosen positive;
      same = ap (λ (o : Option Dialect). steps.Response o positive) (sym e);
      is = says;
      only = λ other is. negotiated_only c plan past bytes chosen positive other t r says is;
    }
negotiated_so c plan watts past bytes chosen (Replied r) t is = absurd is
negotiated_so c plan watts past bytes chosen Other t is =
    other_so c plan watts past bytes (told.Negotiated chosen) (Some (told.Negotiated chosen)) Other t (λ said s. (negotiated_says c plan past bytes chosen t said (λ q. ⊥) is s).1) refl
negotiated_so c plan watts past bytes chosen Unasked t is = absurd is

-- The word is a request of the dialect.

asked_same : (a b : Request) → Payload (Asked a) ≡ Payload (Asked b) → a ≡ b
asked_same a b e = cc

same_reply : (a b : Request) (x y : Reply) (v w : SpelledWatts) (said : steps.Said) → said ≡ steps.Replied a x v → a ≡ b → x ≡ y → v ≡ w → said ≡ steps.Replied b y w
same_reply a b x y v w said e f g h = cc

some_dialect : (a b : Dialect) → Some a ≡ Some b → a ≡ b
some_dialect a b e = cc

asked_says : (c : ToldCodecs) (plan : PostPlan) (past : List Seen) (bytes : List ℕ) (request : Request) (t : IsTold c.words plan.dialects.items past (told.Asked request)) (said : steps.Said) → Says c plan past bytes said → (r : SaysReply c plan past bytes said) × (r.request ≡ request)
asked_says c plan past bytes request t said s = elim (says_so c plan past bytes said s) [
  | inl r ↦ absurd (let x : Payload (Negotiated r.chosen r.own) ≡ Payload (Asked request) = t.only r.words (Payload (Negotiated r.chosen r.own)) r.is ∙ t.kept_is in cc)
  | inr r ↦ (r, asked_same r.request request (t.only r.words (Payload (Asked r.request)) r.is ∙ t.kept_is))
]

says_one : (c : ToldCodecs) (plan : PostPlan) (watts : ToldWatts) (past : List Seen) (bytes : List ℕ) (request : Request) (d : Dialect) (r : ToldReply) (other : steps.Said) → AreDetermined c.words → SpeaksOnce c.Watts → (t : IsTold c.words plan.dialects.items past (told.Asked request)) → TellsSpoken c.words plan.dialects.items past (Some d)
    → (i : IsReply c plan watts d request.ask (drop 8 bytes) r) → Says c plan past bytes other → other ≡ steps.Replied request r.reply i.spelled
says_one c plan watts past bytes request d r other det once t sp i s =
    let v = asked_says c plan past bytes request t other s in
    let x = v.0 in
    let e : x.spoken ≡ d = some_dialect x.spoken d (sym x.spoken_is ∙ sp x.words (Asked x.request) x.is) in
    let p : x.payload ≡ drop 8 bytes = sym (frame_payload bytes x.payload x.bytes_are) in
    let reads : c.words.Reads d (drop 8 bytes) (Some (word.Reply x.reply)) = subst (λ (q : List ℕ). c.words.Reads d q (Some (word.Reply x.reply))) p (subst (λ (y : Dialect). c.words.Reads y x.payload (Some (word.Reply x.reply))) e x.reads) in
    let spells : c.Watts d (drop 8 bytes) x.spelled = subst (λ (q : List ℕ). c.Watts d q x.spelled) p (subst (λ (y : Dialect). c.Watts y x.payload x.spelled) e x.spells) in
    same_reply x.request request x.reply r.reply x.spelled i.spelled other x.said_is v.1
    (reply_same x.reply r.reply (det.reads d (drop 8 bytes) (Some (word.Reply x.reply)) (Some (word.Reply r.reply)) reads i.reads)) (once d (drop 8 bytes) x.spelled i.spelled spells i.spells)

asked_only : (c : ToldCodecs) (plan : PostPlan) (watts : ToldWatts) (past : List Seen) (bytes : List ℕ) (request : Request) (d : Dialect) (r : ToldReply) (other : steps.Said) → AreDetermined c.words → SpeaksOnce c.Watts → (t : IsTold c.words plan.dialects.items past (told.Asked request)) → TellsSpoken c.words plan.dialects.items past (Some d)
    → (i : IsReply c plan watts d request.ask (drop 8 bytes) r) → Says c plan past bytes (steps.Replied request r.reply i.spelled) → IsSaid c plan past bytes other → other ≡ steps.Replied request r.reply i.spelled
asked_only c plan watts past bytes request d r (steps.Response a p) det once t sp i own is = says_one c plan watts past bytes request d r (steps.Response a p) det once t sp i is
asked_only c plan watts past bytes request d r (steps.Replied a x v) det once t sp i own is = says_one c plan watts past bytes request d r (steps.Replied a x v) det once t sp i is
asked_only c plan watts past bytes request d r steps.Other det once t sp i own is = absurd (is.1 (steps.Replied request r.reply i.spelled) own)
asked_only c plan watts past bytes request d r steps.Unasked det once t sp i own is = absurd (is t.words t.word t.is)

asked_so : (c : ToldCodecs) (plan : PostPlan) (watts : ToldWatts) (past : List Seen) (bytes : List ℕ) (request : Request) (spoken : Option Dialect) (found : ToldSaid) → AreDetermined c.words → SpeaksOnce c.Watts → IsTold c.words plan.dialects.items past (told.Asked request) → TellsSpoken c.words plan.dialects.items past spoken
    → ReplyTo c plan watts spoken request.ask bytes found → SaidSo c plan watts past bytes (Some (told.Asked request)) found
asked_so c plan watts past bytes request None found det once t sp is =
    other_so c plan watts past bytes (told.Asked request) (Some (told.Asked request)) found t
    (λ said s. let v = asked_says c plan past bytes request t said s in let x : None ≡ Some v.0.spoken = sym (sp v.0.words (Asked v.0.request) v.0.is) ∙ v.0.spoken_is in absurd (cc)) is
asked_so c plan watts past bytes request (Some d) (Response own positive) det once t sp is = absurd is
asked_so c plan watts past bytes request (Some d) (Replied r) det once t sp (f, i) =
    let u = subst (IsUnanswered c.words plan.dialects.items past t.words) t.kept_is t.is in
    let says : Says c plan past bytes (steps.Replied request r.reply i.spelled) = ReplyIs t.words request r.reply d (drop 8 bytes) i.spelled u (sp t.words (Asked request) u) f.whole i.reads i.kind i.spells in
    record {
      said = steps.Replied request r.reply i.spelled;
      same = record { request = request; spelled = i.spelled; kept_is = refl; said_is = refl; values = i.values };
      is = says;
      only = λ other is. asked_only c plan watts past bytes request d r other det once t sp i says is;
    }
asked_so c plan watts past bytes request (Some d) Other det once t sp is =
    other_so c plan watts past bytes (told.Asked request) (Some (told.Asked request)) Other t
    (λ said s.
    let v = asked_says c plan past bytes request t said s in
    let x = v.0 in
    let e : x.spoken ≡ d = some_dialect x.spoken d (sym x.spoken_is ∙ sp x.words (Asked x.request) x.is) in
    is x.payload x.bytes_are x.reply x.spelled (subst (λ (y : Dialect). c.words.Reads y x.payload (Some (word.Reply x.reply))) e x.reads)
    (ap (λ (q : Request). answers q.ask x.reply.tell) (sym v.1) ∙ x.kind) (subst (λ (y : Dialect). c.Watts y x.payload x.spelled) e x.spells))
    refl
asked_so c plan watts past bytes request (Some d) Unasked det once t sp is = absurd is

-- Whatever the word is.

pub said_so : (c : ToldCodecs) (plan : PostPlan) (watts : ToldWatts) (past : List Seen) (bytes : List ℕ) (spoken : Option Dialect) (kept : Option ToldWord) (found : ToldSaid) → AreDetermined c.words → SpeaksOnce c.Watts → TellsFirst c.words plan.dialects.items past kept → TellsSpoken c.words plan.dialects.items past spoken
    → SaysTo c plan watts spoken bytes kept found → SaidSo c plan watts past bytes kept found
said_so c plan watts past bytes spoken None found det once t sp is = unasked_so c plan watts past bytes None found t is
said_so c plan watts past bytes spoken (Some (told.BadFrame fault)) found det once t sp is =
    other_so c plan watts past bytes (told.BadFrame fault) (Some (told.BadFrame fault)) found t (none_says c plan past bytes (told.BadFrame fault) (Fault fault) t t.kept_is (λ chosen own e. absurd (cc)) (λ request e. absurd (cc))) is
said_so c plan watts past bytes spoken (Some (told.Negotiated chosen)) found det once t sp is = negotiated_so c plan watts past bytes chosen found t is
said_so c plan watts past bytes spoken (Some (told.Asked request)) found det once t sp is = asked_so c plan watts past bytes request spoken found det once t sp is
said_so c plan watts past bytes spoken (Some told.WrongSide) found det once t sp is =
    other_so c plan watts past bytes told.WrongSide (Some told.WrongSide) found t (none_says c plan past bytes told.WrongSide (Payload WrongSide) t t.kept_is (λ chosen own e. absurd (cc)) (λ request e. absurd (cc))) is
said_so c plan watts past bytes spoken (Some told.Refused) found det once t sp is =
    other_so c plan watts past bytes told.Refused (Some told.Refused) found t (none_says c plan past bytes told.Refused (Payload Refused) t t.kept_is (λ chosen own e. absurd (cc)) (λ request e. absurd (cc))) is

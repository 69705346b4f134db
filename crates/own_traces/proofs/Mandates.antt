-- A station's session that is mandated to have its contactor closed is so for whoever reads its trace.
use Rattle.std.proofs.Common.{◌≡◌, ℕ, Bool, true, false, if◌then◌else◌, List, [], ◌∷◌, ◌++◌, length, drop, map, Option, Some, None, refl, sym, ap, subst, ◌∙◌, inl, inr, ◌⊎◌}
use Rattle.std.specs.List.{AllByRecursion}
use Rattle.session_words.specs.declared.plan.PostPlan.{PostPlan}
use Rattle.session_words.specs.declared.word.Reply.{Reply as PostReply}
use Rattle.session_words.specs.declared.word.Request.{Request}
use Rattle.post_spec.specs.Codecs.{Asked, Codecs}
use Rattle.post_spec.specs.Kinds.{is_of, any, asks_opening}
use Rattle.post_spec.specs.Mandated as post
use Rattle.post_spec.specs.Mandated.{before_close, Mandated}
use Rattle.post_spec.specs.Prepared.{HasNo}
use Rattle.post_spec.specs.Sessions as sessions
use Rattle.post_spec.specs.Sessions.{arriving, session, session_behind, with_seen, stream, waits, brought}
use Rattle.post_spec.specs.Steps.{Event, Give, Send, Answer, End, Seen, Heard, Did}
use Rattle.post_spec.specs.Talk.{Exchange, Negotiation, Answered, Talks, IsOk, IsExchange, OneMore, InSession, Unless}
use Rattle.post_spec.specs.Words.{HeardWord, Payload, Words, IsPayloadAt, next_words}
use Rattle.safe_runs.specs.Started.{IsBehindClose, IsOwnStart, MandatedByOwn}
use Rattle.safe_runs.proofs.Growth.{AreWhole, grown}
use Rattle.opens_have_reasons.proofs.Judging.{words_of}
use Rattle.told_pasts.specs.Mandated.{IsStarting, IsStarted, IsMandated}
use Rattle.told_pasts.specs.Spelling.{SpelledWatts, ToldCodecs}
use Rattle.told_pasts.specs.Steps.{Said, Response, Replied, Other, Unasked, ToldStep, seen_in}
use Rattle.told_pasts.specs.Talk.{Reply, exchange_by, exchange_of, is_judged, judged_over, replies, talk}
use Rattle.own_traces.proofs.Told.{IsToldRun}
use Rattle.own_traces.specs.Owning.{TellsOwn}
use Rattle.own_traces.proofs.First.{asked_first}
use Rattle.own_traces.proofs.Pasts.{OwnPast}
use Rattle.own_traces.proofs.Talks.{all_said, talk_is}
use Rattle.own_traces.proofs.Reading.{ClosesRead, all_closes, JudgedAtClose, at_close, IsKeptAtClose, all_kept}
use Rattle.served_sessions.proofs.Bytes.{AreOctets}

-- ---- each word that was answered is whole

with_is : (x : Seen) (o : Option (List Seen)) (es : List Seen) → with_seen x o ≡ Some es → (zs : List Seen) × (o ≡ Some zs) × (x ∷ zs ≡ es)
with_is x None es e = cc
with_is x (Some zs) es e = (zs, refl, cc)

abbrev IsWhole : List Seen → List Exchange → Type 0
IsWhole es xs = AreWhole (length xs) (stream es)

none_whole : (es : List Seen) (xs : List Exchange) → xs ≡ [] → IsWhole es xs
none_whole es xs e = subst (IsWhole es) (sym e) tt

heard_whole : (c : Codecs) (plan : PostPlan) (past es : List Seen) (at : ℕ) (event : Event) (xs : List Exchange) (came : Option Seen) → with_seen (Heard at event) (session_behind came (session past)) ≡ Some es
    → Unless came (Talks c plan.dialects.items past xs) (xs ≡ []) → ((zs : List Seen) → session past ≡ Some zs → Talks c plan.dialects.items past xs → IsWhole zs xs) → IsWhole es xs
heard_whole c plan past es at event xs None l t rest =
    let z = with_is (Heard at event) (session past) es l in
    let g = grown (length xs) (stream z.0) (brought event) (rest z.0 z.1 t) in
    subst (λ (us : List Seen). IsWhole us xs) z.2 g.whole
heard_whole c plan past es at event xs (Some came) l t rest = none_whole es xs t

same_whole : (x : Seen) (o : Option (List Seen)) (es : List Seen) (xs : List Exchange) → ((zs : List Seen) → stream (x ∷ zs) ≡ stream zs) → with_seen x o ≡ Some es → ((zs : List Seen) → o ≡ Some zs → IsWhole zs xs) → IsWhole es xs
same_whole x o es xs same l rest =
    let z = with_is x o es l in
    subst (λ (us : List Seen). IsWhole us xs) z.2 (subst (λ (bytes : List ℕ). AreWhole (length xs) bytes) (sym (same z.0)) (rest z.0 z.1))

payload_there : (c : Codecs) (plan : PostPlan) (es past : List Seen) (bytes : List ℕ) (xs : List Exchange) (x : Exchange) → IsExchange c plan.dialects.items (stream es) xs bytes past x → (payload : List ℕ) × IsPayloadAt (stream es) (length xs) payload
payload_there c plan es past bytes [] (Negotiation chosen) is = (is.payload, is.first)
payload_there c plan es past bytes [] (Answered request reply before) is = absurd is
payload_there c plan es past bytes (y ∷ xs) (Negotiation chosen) is = absurd is
payload_there c plan es past bytes (y ∷ xs) (Answered request reply before) is = (is.0.payload, is.0.asked)

sent_whole : (c : Codecs) (plan : PostPlan) (past es : List Seen) (bytes : List ℕ) (taken : Bool) (xs : List Exchange) (o : Option (List Seen)) → session past ≡ o → with_seen (Did (Send bytes) taken) o ≡ Some es
    → InSession o (λ zs. OneMore c plan.dialects.items zs past bytes (Talks c plan.dialects.items past) xs) (xs ≡ []) → ((zs : List Seen) (ys : List Exchange) → session past ≡ Some zs → Talks c plan.dialects.items past ys → IsWhole zs ys) → IsWhole es xs
sent_whole c plan past es bytes taken xs None here l t rest = cc
sent_whole c plan past es bytes taken xs (Some zs) here l t rest =
    let e : Did (Send bytes) taken ∷ zs ≡ es = cc in
    let p = payload_there c plan zs past bytes t.earlier t.newest t.is in
    let whole : IsWhole zs (t.newest ∷ t.earlier) = (rest zs t.earlier here t.before, (p.1.count, p.1.whole)) in
    subst (λ (us : List Seen). IsWhole us xs) e (subst (λ (ys : List Exchange). AreWhole (length ys) (stream zs)) (sym t.xs_are) whole)

talks_whole : (c : Codecs) (plan : PostPlan) (past es : List Seen) (xs : List Exchange) → session past ≡ Some es → Talks c plan.dialects.items past xs → IsWhole es xs
talks_whole c plan [] es xs l t = cc
talks_whole c plan (Heard at event ∷ past) es xs l t = heard_whole c plan past es at event xs (arriving past) l t (λ zs k u. talks_whole c plan past zs xs k u)
talks_whole c plan (Did (Give o) taken ∷ past) es xs l t = same_whole (Did (Give o) taken) (session past) es xs (λ zs. refl) l (λ zs k. talks_whole c plan past zs xs k t)
talks_whole c plan (Did (Answer bytes) taken ∷ past) es xs l t = same_whole (Did (Answer bytes) taken) (session past) es xs (λ zs. refl) l (λ zs k. talks_whole c plan past zs xs k t)
talks_whole c plan (Did (End cause) taken ∷ past) es xs l t = cc
talks_whole c plan (Did (Send bytes) taken ∷ past) es xs l t = sent_whole c plan past es bytes taken xs (session past) refl l t (λ zs ys k u. talks_whole c plan past zs ys k u)

-- ---- PowerDelivery Start that has no reply yet

judged_by_wait : (b : Bool) (steps : List ToldStep) (past : List Seen) → (b ≡ true → JudgedAtClose steps) → (b ≡ false → is_judged steps ≡ false) → seen_in steps ≡ past
    → (if b then before_close past else past) ≡ (if is_judged steps then judged_over steps else seen_in steps)
judged_by_wait true steps past at free same =
    let j = at refl in
    sym (ap (λ (x : Bool). if x then judged_over steps else seen_in steps) j.judged ∙ j.over ∙ ap before_close same)
judged_by_wait false steps past at free same = sym (ap (λ (x : Bool). if x then judged_over steps else seen_in steps) (free refl) ∙ same)

-- while no reply waits, a word that is next isn't judged yet
abbrev pub Unjudged : ToldCodecs → PostPlan → List ToldStep → List Seen → Type 0
Unjudged c plan steps es =
    waits es ≡ false → (ws later : List HeardWord) (w : HeardWord) → Words c.words plan.dialects.items (stream es) ws → next_words es ws ≡ w ∷ later → is_judged steps ≡ false

next_of : (es : List Seen) (ws later : List HeardWord) (w : HeardWord) → waits es ≡ false → drop (length (sessions.replies es)) ws ≡ w ∷ later → next_words es ws ≡ w ∷ later
next_of es ws later w still e = rw still e

starting : (c : ToldCodecs) (plan : PostPlan) (steps : List ToldStep) (es : List Seen) (xs earlier : List Exchange) (judged : List Seen) → TellsOwn c → IsToldRun c plan steps → ClosesRead steps → session (seen_in steps) ≡ Some es → AreOctets (stream es)
    → Talks c.words plan.dialects.items (seen_in steps) xs → talk steps ≡ xs → Unjudged c plan steps es → post.IsStarting c.words (seen_in steps) es xs earlier judged → IsStarting c plan steps earlier judged
starting c plan steps es xs earlier judged own run closes here octets talks same free s =
    let w = words_of c.words plan.dialects.items (stream es) own.judges octets in
    let f = asked_first c.words plan (seen_in steps) es w.0 xs s.request s.spoken s.payload own.determined here octets (talks_whole c.words plan (seen_in steps) es xs here talks) talks s.next s.request_is s.dialect_is w.1 in
    record {
      words = w.0;
      request = s.request;
      unanswered = record { es = es; hearing = record { session_is = here; words_are = w.1 }; rest = f.later; first = f.is };
      start = s.start;
      earlier_is = s.earlier_is ∙ sym same;
      judged_is = s.judged_is ∙ judged_by_wait (waits es) steps (seen_in steps) (λ b. at_close c plan steps es run closes here b)
          (λ still. free still w.0 f.later (Payload (Asked s.request)) w.1 (next_of es w.0 f.later (Payload (Asked s.request)) still f.is)) refl;
    }

-- ---- one that was answered behind its own Close

pub record Split (rs : List Reply) (behind : List Exchange) (x : Exchange) (earlier : List Exchange) : Type 0 where
  pub front : List Reply
  pub reply : Reply
  pub rest : List Reply
  pub are : rs ≡ front ++ reply ∷ rest
  pub front_is : map exchange_of front ≡ behind
  pub reply_is : exchange_of reply ≡ x
  pub rest_is : map exchange_of rest ≡ earlier

split : (rs : List Reply) (behind : List Exchange) (x : Exchange) (earlier : List Exchange) → map exchange_of rs ≡ behind ++ x ∷ earlier → Split rs behind x earlier
split [] [] x earlier e = cc
split [] (y ∷ behind) x earlier e = cc
split (r ∷ rs) [] x earlier e = record { front = []; reply = r; rest = rs; are = refl; front_is = refl; reply_is = cc; rest_is = cc }
split (r ∷ rs) (y ∷ behind) x earlier e =
    let head : exchange_of r ≡ y = cc in
    let tail : map exchange_of rs ≡ behind ++ x ∷ earlier = cc in
    let s = split rs behind x earlier tail in
    record {
      front = r ∷ s.front;
      reply = s.reply;
      rest = s.rest;
      are = ap (λ (us : List Reply). r ∷ us) s.are;
      front_is = ap (λ (z : Exchange). z ∷ map exchange_of s.front) head ∙ ap (λ (zs : List Exchange). y ∷ zs) s.front_is;
      reply_is = s.reply_is;
      rest_is = s.rest_is;
    }

pub record IsAnswer (said : Said) (before : List Seen) (request : Request) (answer : PostReply) (past : List Seen) : Type 0 where
  pub watts : SpelledWatts
  pub said_is : said ≡ Replied request answer watts
  pub before_is : before ≡ past

answered : (said : Said) (before : List Seen) (request : Request) (answer : PostReply) (past : List Seen) → exchange_by said before ≡ Answered request answer past → IsAnswer said before request answer past
answered (Response chosen positive) before request answer past e = cc
answered (Replied asked told watts) before request answer past e =
    let a : asked ≡ request = cc in
    let b : told ≡ answer = cc in
    let d : before ≡ past = cc in
    record { watts = watts; said_is = ap (λ (r : Request). Replied r told watts) a ∙ ap (λ (r : PostReply). Replied request r watts) b; before_is = d }
answered Other before request answer past e = cc
answered Unasked before request answer past e = cc

kept_at : (front : List Reply) (reply : Reply) (rest : List Reply) → AllByRecursion IsKeptAtClose (front ++ reply ∷ rest) → IsKeptAtClose reply
kept_at [] reply rest all = all.0
kept_at (r ∷ front) reply rest all = kept_at front reply rest all.1

started : (c : ToldCodecs) (plan : PostPlan) (steps : List ToldStep) (xs earlier : List Exchange) (judged : List Seen) → IsToldRun c plan steps → ClosesRead steps → talk steps ≡ xs → IsOwnStart xs earlier judged → IsStarted steps earlier judged
started c plan steps xs earlier judged run closes same own =
    let s = own.started in
    let cut = split (replies steps) s.behind (Answered s.request s.reply s.before) earlier (same ∙ s.xs_are) in
    let a = answered cut.reply.said cut.reply.before s.request s.reply s.before cut.reply_is in
    let kept = kept_at cut.front cut.reply cut.rest (subst (AllByRecursion IsKeptAtClose) cut.are (all_kept c plan steps run closes)) in
    let close : IsBehindClose cut.reply.before = subst IsBehindClose (sym a.before_is) own.closed in
    record {
      behind = cut.front;
      reply = cut.reply;
      rest = cut.rest;
      replies_are = cut.are;
      request = s.request;
      answer = s.reply;
      watts = a.watts;
      said_is = a.said_is;
      start = s.start;
      goes_on = subst (HasNo (is_of asks_opening any)) (sym cut.front_is) s.goes_on;
      earlier_is = sym cut.rest_is;
      judged_is = s.judged_is ∙ ap before_close (sym a.before_is) ∙ sym (kept close);
    }

-- ---- so it is mandated

starts : (c : ToldCodecs) (plan : PostPlan) (steps : List ToldStep) (es : List Seen) (xs earlier : List Exchange) (judged : List Seen) → TellsOwn c → IsToldRun c plan steps → ClosesRead steps → session (seen_in steps) ≡ Some es → AreOctets (stream es)
    → Talks c.words plan.dialects.items (seen_in steps) xs → talk steps ≡ xs → Unjudged c plan steps es → post.IsStarting c.words (seen_in steps) es xs earlier judged ⊎ IsOwnStart xs earlier judged → IsStarting c plan steps earlier judged ⊎ IsStarted steps earlier judged
starts c plan steps es xs earlier judged own run closes here octets talks same free (inl s) = inl (starting c plan steps es xs earlier judged own run closes here octets talks same free s)
starts c plan steps es xs earlier judged own run closes here octets talks same free (inr s) = inr (started c plan steps xs earlier judged run closes same s)

pub mandated : (c : ToldCodecs) (plan : PostPlan) (steps : List ToldStep) → TellsOwn c → IsToldRun c plan steps → OwnPast c.words plan (seen_in steps) → ((es : List Seen) → session (seen_in steps) ≡ Some es → AreOctets (stream es))
    → ((es : List Seen) → session (seen_in steps) ≡ Some es → Unjudged c plan steps es) → MandatedByOwn c.words plan (seen_in steps) → IsMandated c plan steps
mandated c plan steps own run o octets free m =
    let k = m.mandated in
    let closes = all_closes c plan steps own run o in
    let same = talk_is c plan steps k.xs own run (all_said c plan steps own run o) k.talks in
    record {
      es = k.es;
      session_is = k.session_is;
      ok = subst (AllByRecursion IsOk) (sym same) k.ok;
      earlier = k.earlier;
      judged = k.judged;
      starts = starts c plan steps k.es k.xs k.earlier k.judged own run closes k.session_is (octets k.es k.session_is) k.talks same (free k.es k.session_is) m.own;
      prepared = k.prepared;
      checked = k.checked;
      ready = k.ready;
    }

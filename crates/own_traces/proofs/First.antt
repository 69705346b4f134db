-- The first word without a reply, and where it stands.
use Rattle.std.proofs.Common.{◌≡◌, ◌<◌, ℕ, ◌+◌, Bool, false, List, [], ◌∷◌, ◌++◌, length, drop, get_or, Option, Some, None, Ok, Err, refl, sym, ap, subst, ◌∙◌, inl, inr, arith}
use Rattle.std.proofs.lemmas.List.{drop_more, length-append}
use Rattle.charge_world.specs.declared.offer.Dialect.{Dialect}
use Rattle.session_words.specs.declared.plan.PostPlan.{PostPlan}
use Rattle.session_words.specs.declared.word.Request.{Request}
use Rattle.session_words.specs.declared.word.Word.TheVariants as word
use Rattle.v2gtp_frames.specs.Frames.{Frames}
use Rattle.post_spec.specs.Codecs.{Judged, Asked, Refused, Codecs, judged_word}
use Rattle.post_spec.specs.Sessions.{session, with_seen, stream, replies, waits}
use Rattle.post_spec.specs.Spelled.{AreDetermined}
use Rattle.post_spec.specs.Steps.{Act, Seen, Did}
use Rattle.post_spec.specs.Talk.{Exchange, dialect_of, Talks}
use Rattle.post_spec.specs.Words.{HeardWord, Payload, Fault, AreJudged, Words, IsPayloadAt, next_words}
use Rattle.safe_runs.proofs.Growth.{AreWhole}
use Rattle.read_runs.proofs.Counting.{counted}
use Rattle.coming_causes_open.proofs.Spoken.{Spoke, spoke, chosen_is, same_payload, FaultAt, WordAt, DialectAt, word_at}
use Rattle.served_sessions.proofs.Bytes.{AreOctets}
use Rattle.next_words.specs.Next.{IsNextWord}
use Rattle.next_words.proofs.Order.{in_payloads, word_there}
use Rattle.told_pasts.specs.Reading.{spoken_in}

pub record IsFirst (es : List Seen) (ws : List HeardWord) (judged : Judged) : Type 0 where
  pub later : List HeardWord
  pub is : drop (length (replies es)) ws ≡ Payload judged ∷ later

-- however the payloads behind it are judged
abbrev pub FirstWord : Codecs → PostPlan → List Seen → Judged → Type 0
FirstWord c plan past judged = (es : List Seen) (ws : List HeardWord) → session past ≡ Some es → Words c plan.dialects.items (stream es) ws → IsFirst es ws judged

-- ---- it stays behind orders and answers to datagrams

first_with : (c : Codecs) (plan : PostPlan) (x : Seen) (kept : Option (List Seen)) (judged : Judged) (es : List Seen) (ws : List HeardWord)
    → ((zs : List Seen) → (stream (x ∷ zs) ≡ stream zs) × (replies (x ∷ zs) ≡ replies zs))
    → ((zs : List Seen) → kept ≡ Some zs → Words c plan.dialects.items (stream zs) ws → IsFirst zs ws judged)
    → with_seen x kept ≡ Some es → Words c plan.dialects.items (stream es) ws → IsFirst es ws judged
first_with c plan x None judged es ws same first l w = cc
first_with c plan x (Some zs) judged es ws same first l w =
    let e : x ∷ zs ≡ es = cc in
    let f = first zs refl (subst (λ (bytes : List ℕ). Words c plan.dialects.items bytes ws) (ap stream (sym e) ∙ (same zs).0) w) in
    record { later = f.later; is = ap (λ (rs : List (List ℕ)). drop (length rs) ws) (ap replies (sym e) ∙ (same zs).1) ∙ f.is }

pub first_given : (c : Codecs) (plan : PostPlan) (past : List Seen) (act : Act) (taken : Bool) (judged : Judged) → session (Did act taken ∷ past) ≡ with_seen (Did act taken) (session past)
    → ((zs : List Seen) → (stream (Did act taken ∷ zs) ≡ stream zs) × (replies (Did act taken ∷ zs) ≡ replies zs)) → FirstWord c plan past judged → FirstWord c plan (Did act taken ∷ past) judged
first_given c plan past act taken judged is same first es ws l w =
    first_with c plan (Did act taken) (session past) judged es ws same (λ zs k v. first zs ws k v) (sym is ∙ l) w

-- ---- a word that is next, where no reply waits

next_first : (es : List Seen) (ws later : List HeardWord) (judged : Judged) → waits es ≡ false → next_words es ws ≡ Payload judged ∷ later → drop (length (replies es)) ws ≡ Payload judged ∷ later
next_first es ws later judged still is = let x = rw still at is in x

pub read_first : (c : Codecs) (plan : PostPlan) (past : List Seen) (judged : Judged) → IsNextWord c plan past judged → FirstWord c plan past judged
read_first c plan past judged next es ws l w =
    let n = next es ws l w in
    record { later = n.later; is = next_first es ws n.later judged n.goes_on n.next_is }

-- ---- a request that stands behind all that were answered

not_fault : (n : ℕ) (bytes payload : List ℕ) (w : HeardWord) → IsPayloadAt bytes n payload → FaultAt bytes n w → ⊥
not_fault n bytes payload w p f = let x : Ok (Some p.count) ≡ Err f.fault = sym p.whole ∙ f.at in cc

request_word : (c : Codecs) (offers : List Dialect) (bytes : List ℕ) (n : ℕ) (d : Dialect) (payload : List ℕ) (request : Request) (w : HeardWord) → AreDetermined c → IsPayloadAt bytes n payload → c.Reads d payload (Some (word.Request request)) → WordAt c offers bytes n (Some d) w
    → w ≡ Payload (Asked request)
request_word c offers bytes n d payload request w det p r (inl f) = absurd (not_fault n bytes payload w p f)
request_word c offers bytes n d payload request w det p r (inr x) =
    let same = same_payload bytes n payload x.payload p x.at in
    let here : c.Reads d x.payload (Some (word.Request request)) = subst (λ (bs : List ℕ). c.Reads d bs (Some (word.Request request))) same r in
    let read = det.reads d x.payload x.by.0 (Some (word.Request request)) x.by.1 here in
    x.word_is ∙ ap Payload (x.by.2 ∙ ap judged_word read)

later_dialect : (c : Codecs) (offers : List Dialect) (bytes : List ℕ) (xs : List Exchange) (d : Dialect) → dialect_of xs ≡ Some d → Spoke c offers bytes d → DialectAt c offers bytes (length xs) (Some d)
later_dialect c offers bytes [] d e s = cc
later_dialect c offers bytes (x ∷ xs) d e s = (d, refl, s)

pub asked_first : (c : Codecs) (plan : PostPlan) (past es : List Seen) (ws : List HeardWord) (xs : List Exchange) (request : Request) (d : Dialect) (payload : List ℕ) → AreDetermined c → session past ≡ Some es → AreOctets (stream es)
    → AreWhole (length xs) (stream es) → Talks c plan.dialects.items past xs → IsPayloadAt (stream es) (length xs) payload → c.Reads d payload (Some (word.Request request)) → dialect_of xs ≡ Some d → Words c plan.dialects.items (stream es) ws
    → IsFirst es ws (Asked request)
asked_first c plan past es ws xs request d payload det here o whole talks place reads spoken w =
    let offers = plan.dialects.items in
    let n = length xs in
    let at = later_dialect c plan.dialects.items (stream es) xs d spoken (spoke c plan.dialects.items past es xs d here talks spoken) in
    let within = in_payloads (length xs) place.count (stream es) w.rest w.payloads o whole place.whole w.frames in
    let front = word_there c plan.dialects.items (stream es) w.rest w.payloads w.front (length xs) (Some d) det w.frames w.judged at within in
    let all : length ws ≡ length w.front + length w.behind = ap length w.words_are ∙ length-append w.front w.behind in
    let more : length xs < length ws = omega (arith, front, all) in
    let head = drop_more ws (length xs) (Payload Refused) more in
    let found = word_at c plan.dialects.items (stream es) ws (drop (length xs + 1) ws) (length xs) (Some d) (get_or ws (length xs) (Payload Refused)) det w at head in
    let is = request_word c plan.dialects.items (stream es) (length xs) d payload request (get_or ws (length xs) (Payload Refused)) det place reads found in
    record {
      later = drop (length xs + 1) ws;
      is = ap (λ (i : ℕ). drop i ws) (counted c plan.dialects.items past es xs here talks) ∙ head ∙ ap (λ (x : HeardWord). x ∷ drop (length xs + 1) ws) is;
    }

-- ---- the dialect in which a session talks

spoken_by : (c : Codecs) (offers : List Dialect) (bytes rest : List ℕ) (payloads : List (List ℕ)) (front behind ws : List HeardWord) (d : Dialect) → AreDetermined c → Frames bytes payloads rest → AreJudged c offers payloads front → 0 < length payloads
    → ws ≡ front ++ behind → Spoke c offers bytes d → spoken_in ws ≡ Some d
spoken_by c offers bytes rest [] front behind ws d det f a h e s = absurd (omega (arith, h))
spoken_by c offers bytes rest (p ∷ ps) [] behind ws d det f a h e s = absurd a
spoken_by c offers bytes rest (p ∷ ps) (Fault fault ∷ front) behind ws d det f a h e s = absurd a
spoken_by c offers bytes rest (p ∷ ps) (Payload judged ∷ front) behind ws d det f a h e s =
    ap spoken_in e ∙ chosen_is c offers bytes rest p ps judged d det f a.0 s

pub spoken_is : (c : Codecs) (plan : PostPlan) (past es : List Seen) (ws : List HeardWord) (xs : List Exchange) (d : Dialect) → AreDetermined c → session past ≡ Some es → AreOctets (stream es) → Talks c plan.dialects.items past xs → dialect_of xs ≡ Some d
    → Words c plan.dialects.items (stream es) ws → spoken_in ws ≡ Some d
spoken_is c plan past es ws xs d det here o talks spoken w =
    let s = spoke c plan.dialects.items past es xs d here talks spoken in
    let within = in_payloads 0 s.first.count (stream es) w.rest w.payloads o tt s.first.whole w.frames in
    spoken_by c plan.dialects.items (stream es) w.rest w.payloads w.front w.behind ws d det w.frames w.judged within w.words_are s

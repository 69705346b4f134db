-- What the next word of a stream is: a payload as it is judged, or the fault of a frame.
use Rattle.std.proofs.Common.{◌≡◌, ◌<◌, ℕ, zero, suc, ◌+◌, Bool, List, [], ◌∷◌, ◌++◌, length, drop, get_or, Option, Some, None, Ok, Err, refl, sym, ap, subst, ◌∙◌, inl, inr, ◌⊎◌, arith}
use Rattle.charge_world.specs.declared.offer.Dialect.{Dialect}
use Rattle.v2gtp_frames.specs.declared.FrameFault.{FrameFault}
use Rattle.v2gtp_frames.specs.Frames.{Frames}
use Rattle.v2gtp_frames.specs.Reading.{whole_at, payload_at, behind_frames}
use Rattle.v2gtp_frames.proofs.Ends.{is_fault}
use Rattle.v2gtp_frames.proofs.Same.{next_word, last_rest}
use Rattle.post_spec.specs.Codecs.{Judged, Negotiated, Codecs, Judges}
use Rattle.post_spec.specs.Sessions.{arriving, session_behind, session, with_seen, stream, brought}
use Rattle.post_spec.specs.Spelled.{AreDetermined}
use Rattle.post_spec.specs.Steps.{Event, Give, Send, Answer, End, Seen, Heard, Did}
use Rattle.post_spec.specs.Talk.{Exchange, Negotiation, Answered, dialect_of, IsExchange, OneMore, InSession, Unless, Talks}
use Rattle.post_spec.specs.Words.{HeardWord, Payload, Fault, chosen_by, AreRead, AreJudged, EndsSo, Words, IsPayloadAt}
use Rattle.safe_runs.proofs.Growth.{payload_stays}

pub same_payload : (bytes : List ℕ) (n : ℕ) (p q : List ℕ) → IsPayloadAt bytes n p → IsPayloadAt bytes n q → p ≡ q
same_payload bytes n p q a b =
    let x : Ok (Some a.count) ≡ Ok (Some b.count) = sym a.whole ∙ b.whole in
    let e : a.count ≡ b.count = cc in
    a.payload_is ∙ ap (λ (k : ℕ). payload_at k (behind_frames n bytes)) e ∙ sym b.payload_is

-- the first payload chose the dialect
pub record Spoke (c : Codecs) (offers : List Dialect) (heard : List ℕ) (d : Dialect) : Type 0 where
  pub payload : List ℕ
  pub response : List ℕ
  pub first : IsPayloadAt heard 0 payload
  pub judged : c.Negotiates offers payload (Negotiated (Some d) response)

spoke_more : (c : Codecs) (offers : List Dialect) (heard more : List ℕ) (d : Dialect) → Spoke c offers heard d → Spoke c offers (heard ++ more) d
spoke_more c offers heard more d s = record { payload = s.payload; response = s.response; first = payload_stays 0 heard more s.payload tt s.first; judged = s.judged }

no_dialect : (xs : List Exchange) (d : Dialect) → xs ≡ [] → dialect_of xs ≡ Some d → ⊥
no_dialect xs d n h = absurd (let y : None ≡ Some d = sym (ap dialect_of n) ∙ h in cc)

spoke_with : (c : Codecs) (offers : List Dialect) (x : Seen) (lives : Option (List Seen)) (es : List Seen) (d : Dialect) → with_seen x lives ≡ Some es → ((zs : List Seen) → lives ≡ Some zs → Spoke c offers (stream (x ∷ zs)) d) → Spoke c offers (stream es) d
spoke_with c offers x None es d k f = cc
spoke_with c offers x (Some zs) es d k f = let y : x ∷ zs ≡ es = cc in subst (λ (ys : List Seen). Spoke c offers (stream ys) d) y (f zs refl)

spoke_heard : (c : Codecs) (offers : List Dialect) (past es : List Seen) (at : ℕ) (e : Event) (xs : List Exchange) (d : Dialect) (came : Option Seen) → with_seen (Heard at e) (session_behind came (session past)) ≡ Some es → Unless came (Talks c offers past xs) (xs ≡ [])
    → dialect_of xs ≡ Some d → ((zs : List Seen) → session past ≡ Some zs → Talks c offers past xs → Spoke c offers (stream zs) d) → Spoke c offers (stream es) d
spoke_heard c offers past es at e xs d (Some x) k t h f = absurd (no_dialect xs d t h)
spoke_heard c offers past es at e xs d None k t h f = spoke_with c offers (Heard at e) (session past) es d k (λ zs l. spoke_more c offers (stream zs) (brought e) d (f zs l t))

spoke_said : (c : Codecs) (offers : List Dialect) (past zs : List Seen) (bytes : List ℕ) (newest : Exchange) (earlier : List Exchange) (d : Dialect) → IsExchange c offers (stream zs) earlier bytes past newest → dialect_of (newest ∷ earlier) ≡ Some d
    → (dialect_of earlier ≡ Some d → Spoke c offers (stream zs) d) → Spoke c offers (stream zs) d
spoke_said c offers past zs bytes (Negotiation chosen) [] d i h f = record { payload = i.payload; response = i.response; first = i.first; judged = subst (λ (x : Option Dialect). c.Negotiates offers i.payload (Negotiated x i.response)) h i.judged }
spoke_said c offers past zs bytes (Answered request reply before) [] d i h f = absurd i
spoke_said c offers past zs bytes (Negotiation chosen) (x ∷ xs) d i h f = absurd i
spoke_said c offers past zs bytes (Answered request reply before) (x ∷ xs) d i h f = f h

spoke_sent : (c : Codecs) (offers : List Dialect) (past es : List Seen) (bytes : List ℕ) (taken : Bool) (xs : List Exchange) (d : Dialect) (lives : Option (List Seen)) → session past ≡ lives → with_seen (Did (Send bytes) taken) lives ≡ Some es
    → InSession lives (λ zs. OneMore c offers zs past bytes (Talks c offers past) xs) (xs ≡ []) → dialect_of xs ≡ Some d
    → ((zs : List Seen) (ys : List Exchange) → session past ≡ Some zs → Talks c offers past ys → dialect_of ys ≡ Some d → Spoke c offers (stream zs) d) → Spoke c offers (stream es) d
spoke_sent c offers past es bytes taken xs d None l k t h f = cc
spoke_sent c offers past es bytes taken xs d (Some zs) l k t h f =
    let s = spoke_said c offers past zs bytes t.newest t.earlier d t.is (sym (ap dialect_of t.xs_are) ∙ h) (λ g. f zs t.earlier l t.before g) in
    spoke_with c offers (Did (Send bytes) taken) (Some zs) es d k (λ ys m. let y : zs ≡ ys = cc in subst (λ (us : List Seen). Spoke c offers (stream us) d) y s)

pub spoke : (c : Codecs) (offers : List Dialect) (past es : List Seen) (xs : List Exchange) (d : Dialect) → session past ≡ Some es → Talks c offers past xs → dialect_of xs ≡ Some d → Spoke c offers (stream es) d
spoke c offers [] es xs d s t h = cc
spoke c offers (Heard at e ∷ past) es xs d s t h = spoke_heard c offers past es at e xs d (arriving past) s t h (λ zs l u. spoke c offers past zs xs d l u h)
spoke c offers (Did (Give o) taken ∷ past) es xs d s t h = spoke_with c offers (Did (Give o) taken) (session past) es d s (λ zs l. spoke c offers past zs xs d l t h)
spoke c offers (Did (Answer bytes) taken ∷ past) es xs d s t h = spoke_with c offers (Did (Answer bytes) taken) (session past) es d s (λ zs l. spoke c offers past zs xs d l t h)
spoke c offers (Did (End cause) taken ∷ past) es xs d s t h = cc
spoke c offers (Did (Send bytes) taken ∷ past) es xs d s t h = spoke_sent c offers past es bytes taken xs d (session past) refl s t h (λ zs ys l u g. spoke c offers past zs ys d l u g)

-- The word at a place of a stream.

pub record PayloadAt (c : Codecs) (offers : List Dialect) (bytes : List ℕ) (n : ℕ) (d : Option Dialect) (word : HeardWord) : Type 0 where
  pub judged : Judged
  pub payload : List ℕ
  pub word_is : word ≡ Payload judged
  pub at : IsPayloadAt bytes n payload
  pub by : Judges c offers d payload judged

pub record FaultAt (bytes : List ℕ) (n : ℕ) (word : HeardWord) : Type 0 where
  pub fault : FrameFault
  pub word_is : word ≡ Fault fault
  pub at : whole_at (behind_frames n bytes) ≡ Err fault

abbrev pub WordAt : Codecs → List Dialect → List ℕ → ℕ → Option Dialect → HeardWord → Type 0
WordAt c offers bytes n d word = FaultAt bytes n word ⊎ PayloadAt c offers bytes n d word

-- the dialect in which it is
abbrev pub DialectAt : Codecs → List Dialect → List ℕ → ℕ → Option Dialect → Type 0
DialectAt c offers bytes zero d = d ≡ None
DialectAt c offers bytes (suc k) d = (e : Dialect) × (d ≡ Some e) × Spoke c offers bytes e

nothing_at : (n : ℕ) (word : HeardWord) (tail : List HeardWord) → drop n [] ≡ word ∷ tail → ⊥
nothing_at zero word tail h = absurd (cc)
nothing_at (suc n) word tail h = absurd (cc)

head_is : (a b : HeardWord) (ys zs : List HeardWord) → a ∷ ys ≡ b ∷ zs → a ≡ b
head_is a b ys zs h = cc

fault_at : (bytes rest : List ℕ) (payloads : List (List ℕ)) (n m : ℕ) (behind tail : List HeardWord) (word : HeardWord) → Frames bytes payloads rest → EndsSo rest behind → n ≡ length payloads + m → drop m behind ≡ word ∷ tail → FaultAt bytes n word
fault_at bytes rest payloads n m [] tail word f e q h = absurd (nothing_at m word tail h)
fault_at bytes rest payloads n m (Payload judged ∷ words) tail word f e q h = absurd e
fault_at bytes rest payloads n m (Fault fault ∷ (w ∷ words)) tail word f e q h = absurd e
fault_at bytes rest payloads n zero (Fault fault ∷ []) tail word f e q h = record {
  fault = fault;
  word_is = sym (head_is (Fault fault) word [] tail h);
  at = let k : n ≡ length payloads = omega (arith, q) in ap (λ (i : ℕ). whole_at (behind_frames i bytes)) k ∙ ap whole_at (last_rest bytes payloads rest f) ∙ is_fault rest fault e;
}
fault_at bytes rest payloads n (suc m) (Fault fault ∷ []) tail word f e q h = absurd (nothing_at m word tail h)

-- later payloads
pub record ReadAt (c : Codecs) (offers : List Dialect) (d : Dialect) (payloads : List (List ℕ)) (k : ℕ) (word : HeardWord) : Type 0 where
  pub judged : Judged
  pub word_is : word ≡ Payload judged
  pub within : k < length payloads
  pub by : Judges c offers (Some d) (get_or payloads k []) judged

abbrev BehindAll : List (List ℕ) → ℕ → List HeardWord → HeardWord → List HeardWord → Type 0
BehindAll payloads k behind word tail = (m : ℕ) × (k ≡ length payloads + m) × (drop m behind ≡ word ∷ tail)

behind_more : (p : List ℕ) (ps : List (List ℕ)) (k : ℕ) (behind : List HeardWord) (word : HeardWord) (tail : List HeardWord) → BehindAll ps k behind word tail → BehindAll (p ∷ ps) (suc k) behind word tail
behind_more p ps k behind word tail (m, e, h) = let l : length (p ∷ ps) ≡ suc (length ps) = refl in (m, omega (arith, e, l), h)

read_more : (c : Codecs) (offers : List Dialect) (d : Dialect) (p : List ℕ) (ps : List (List ℕ)) (k : ℕ) (word : HeardWord) → ReadAt c offers d ps k word → ReadAt c offers d (p ∷ ps) (suc k) word
read_more c offers d p ps k word r = let l : length (p ∷ ps) ≡ suc (length ps) = refl in let w = r.within in record { judged = r.judged; word_is = r.word_is; within = omega (arith, w, l); by = r.by }

all_behind : (ps : List (List ℕ)) (k : ℕ) → length ps ≡ 0 → k ≡ length ps + k
all_behind ps k h = omega (arith, h)

read_at : (c : Codecs) (offers : List Dialect) (d : Dialect) (payloads : List (List ℕ)) (front behind tail : List HeardWord) (k : ℕ) (word : HeardWord) → AreRead c offers (Some d) payloads front → drop k (front ++ behind) ≡ word ∷ tail
    → ReadAt c offers d payloads k word ⊎ BehindAll payloads k behind word tail
read_at c offers d [] front behind tail k word a h = inr (k, all_behind [] k refl, subst (λ (fs : List HeardWord). drop k (fs ++ behind) ≡ word ∷ tail) a h)
read_at c offers d (p ∷ ps) [] behind tail k word a h = absurd a
read_at c offers d (p ∷ ps) (Fault fault ∷ ws) behind tail k word a h = absurd a
read_at c offers d (p ∷ ps) (Payload judged ∷ ws) behind tail zero word a h = inl (record { judged = judged; word_is = sym (head_is (Payload judged) word (ws ++ behind) tail h); within = omega arith; by = a.0 })
read_at c offers d (p ∷ ps) (Payload judged ∷ ws) behind tail (suc k) word a h = elim (read_at c offers d ps ws behind tail k word a.1 h) [
  | inl r ↦ inl (read_more c offers d p ps k word r)
  | inr r ↦ inr (behind_more p ps k behind word tail r)
]

payload_here : (bytes rest : List ℕ) (ps : List (List ℕ)) (n : ℕ) → Frames bytes ps rest → n < length ps → IsPayloadAt bytes n (get_or ps n [])
payload_here bytes rest ps n f l = let x = next_word bytes ps rest n f l in record { count = length (get_or ps n []); whole = x.0; payload_is = sym x.1 }

first_at : (c : Codecs) (offers : List Dialect) (bytes rest : List ℕ) (payloads : List (List ℕ)) (front behind tail : List HeardWord) (word : HeardWord) → Frames bytes payloads rest → AreJudged c offers payloads front → EndsSo rest behind → drop zero (front ++ behind) ≡ word ∷ tail
    → WordAt c offers bytes zero None word
first_at c offers bytes rest [] front behind tail word f a e h = inl (fault_at bytes rest [] zero zero behind tail word f e (all_behind [] zero refl) (subst (λ (fs : List HeardWord). drop zero (fs ++ behind) ≡ word ∷ tail) a h))
first_at c offers bytes rest (p ∷ ps) [] behind tail word f a e h = absurd a
first_at c offers bytes rest (p ∷ ps) (Fault fault ∷ ws) behind tail word f a e h = absurd a
first_at c offers bytes rest (p ∷ ps) (Payload judged ∷ ws) behind tail word f a e h =
    inr (record { judged = judged; payload = p; word_is = sym (head_is (Payload judged) word (ws ++ behind) tail h); at = payload_here bytes rest (p ∷ ps) zero f (omega arith); by = a.0 })

pub chosen_is : (c : Codecs) (offers : List Dialect) (bytes rest p : List ℕ) (ps : List (List ℕ)) (judged : Judged) (e : Dialect) → AreDetermined c → Frames bytes (p ∷ ps) rest → c.Negotiates offers p judged → Spoke c offers bytes e → chosen_by judged ≡ Some e
chosen_is c offers bytes rest p ps judged e det f j s =
    let same : s.payload ≡ p = same_payload bytes zero s.payload p s.first (payload_here bytes rest (p ∷ ps) zero f (omega arith)) in
    ap chosen_by (det.negotiates offers p judged (Negotiated (Some e) s.response) j (subst (λ (x : List ℕ). c.Negotiates offers x (Negotiated (Some e) s.response)) same s.judged))

later_at : (c : Codecs) (offers : List Dialect) (bytes rest : List ℕ) (payloads : List (List ℕ)) (front behind tail : List HeardWord) (k : ℕ) (e : Dialect) (word : HeardWord) → AreDetermined c → Frames bytes payloads rest → AreJudged c offers payloads front → EndsSo rest behind
    → Spoke c offers bytes e → drop (suc k) (front ++ behind) ≡ word ∷ tail → WordAt c offers bytes (suc k) (Some e) word
later_at c offers bytes rest [] front behind tail k e word det f a ends s h = inl (fault_at bytes rest [] (suc k) (suc k) behind tail word f ends (all_behind [] (suc k) refl) (subst (λ (fs : List HeardWord). drop (suc k) (fs ++ behind) ≡ word ∷ tail) a h))
later_at c offers bytes rest (p ∷ ps) [] behind tail k e word det f a ends s h = absurd a
later_at c offers bytes rest (p ∷ ps) (Fault fault ∷ ws) behind tail k e word det f a ends s h = absurd a
later_at c offers bytes rest (p ∷ ps) (Payload judged ∷ ws) behind tail k e word det f a ends s h =
    let read = subst (λ (d : Option Dialect). AreRead c offers d ps ws) (chosen_is c offers bytes rest p ps judged e det f a.0 s) a.1 in
    elim (read_at c offers e ps ws behind tail k word read h) [
      | inl r ↦
          let w = r.within in
          let l : length (p ∷ ps) ≡ suc (length ps) = refl in
          inr (record { judged = r.judged; payload = get_or ps k []; word_is = r.word_is; at = payload_here bytes rest (p ∷ ps) (suc k) f (omega (arith, w, l)); by = r.by })
      | inr r ↦
          let b = behind_more p ps k behind word tail r in
          inl (fault_at bytes rest (p ∷ ps) (suc k) b.0 behind tail word f ends b.1 b.2)
    ]

pub word_at : (c : Codecs) (offers : List Dialect) (bytes : List ℕ) (words tail : List HeardWord) (n : ℕ) (d : Option Dialect) (word : HeardWord) → AreDetermined c → Words c offers bytes words → DialectAt c offers bytes n d → drop n words ≡ word ∷ tail → WordAt c offers bytes n d word
word_at c offers bytes words tail zero d word det w k h =
    subst (λ (x : Option Dialect). WordAt c offers bytes zero x word) (sym k)
    (first_at c offers bytes w.rest w.payloads w.front w.behind tail word w.frames w.judged w.ends (subst (λ (ws : List HeardWord). drop zero ws ≡ word ∷ tail) w.words_are h))
word_at c offers bytes words tail (suc i) d word det w k h =
    subst (λ (x : Option Dialect). WordAt c offers bytes (suc i) x word) (sym k.1)
    (later_at c offers bytes w.rest w.payloads w.front w.behind tail i k.0 word det w.frames w.judged w.ends k.2 (subst (λ (ws : List HeardWord). drop (suc i) ws ≡ word ∷ tail) w.words_are h))

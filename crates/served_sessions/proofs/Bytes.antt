-- The frames of a stream, as many as were found whole at its front.
use Rattle.std.proofs.Common.{◌≡◌, ◌<◌, ℕ, zero, suc, ◌+◌, ◌==◌, Bool, true, false, if◌then◌else◌, List, [], ◌∷◌, ◌++◌, length, drop, Option, Some, None, Ok, Err, refl, sym, ap, subst, ◌∙◌, arith, inl, inr, append_assoc}
use Rattle.std.proofs.lemmas.List.{append-nil, length-append, length-drop, length-take-le}
use Rattle.std.proofs.lemmas.List.Elements.{All-nil, All-cons, All-append, All-push, All-drop}
use Rattle.std.proofs.lemmas.Grind.{flat_map-append}
use Rattle.std.specs.List.{AllByRecursion, flat_map}
use Rattle.std.specs.Prelude.{All}
use Rattle.charge_world.specs.declared.entry.Entry.{Entry}
use Rattle.charge_world.specs.declared.entry.Entry.TheVariants as entry
use Rattle.charge_world.specs.declared.heard.What.{What}
use Rattle.charge_world.specs.declared.heard.What.TheVariants as what
use Rattle.session_words.specs.declared.plan.SitePlan.{SitePlan}
use Rattle.v2gtp_frames.specs.declared.FrameFault.{FrameFault}
use Rattle.v2gtp_frames.specs.Frames.{frame, IsPayload, IsRest, Frames, IsRight}
use Rattle.v2gtp_frames.specs.Reading.{whole_at, payload_at, behind_front, behind_frames}
use Rattle.v2gtp_frames.proofs.Again.{is_frame}
use Rattle.v2gtp_frames.proofs.Ends.{fault_is, none_rest, fault_rest}
use Rattle.v2gtp_frames.proofs.Growing.{whole_fits}
use Rattle.v2gtp_frames.proofs.Same.{one_reading}
use Rattle.v2gtp_frames.proofs.Taking.{behind_whole}
use Rattle.post_spec.specs.Codecs.{Codecs}
use Rattle.post_spec.specs.Sessions.{arriving, session_behind, session, with_seen, stream, brought}
use Rattle.post_spec.specs.Steps as steps
use Rattle.post_spec.specs.Steps.{Event, Came, Bytes, Gone, Datagram, Plant, Clock, Over, Act, Give, Send, Answer, End, Seen, Did, moment, event_at, seen}
use Rattle.station_spec.specs.Blocks.{Brings}
use Rattle.station_spec.specs.Sharing.{Post}
use Rattle.station_spec.specs.Runs.{HeardBy, IsRun, entry_of}
use Rattle.safe_runs.proofs.Growth.{AreWhole}

abbrev pub AreOctets : List ℕ → Type 0
AreOctets bytes = All (λ b. b < 256) bytes

octets_of : (bytes : List ℕ) → AllByRecursion (λ b. b < 256) bytes → AreOctets bytes
octets_of [] h = All-nil (λ b. b < 256)
octets_of (b ∷ bytes) h = All-cons (λ b. b < 256) b bytes h.0 (octets_of bytes h.1)

-- the n first payloads of a stream
pub record Fronts (n : ℕ) (bytes : List ℕ) : Type 0 where
  pub payloads : List (List ℕ)
  pub count : length payloads ≡ n
  pub whole : bytes ≡ flat_map frame payloads ++ behind_frames n bytes
  pub each : All IsPayload payloads
  pub octets : AreOctets (behind_frames n bytes)

fronts_more : (n len : ℕ) (bytes : List ℕ) → whole_at (behind_frames n bytes) ≡ Ok (Some len) → Fronts n bytes → Fronts (suc n) bytes
fronts_more n len bytes w f =
    let r : List ℕ = behind_frames n bytes in
    let fits = whole_fits r len w in
    let left : behind_front r ≡ drop (8 + len) r = behind_whole r len w in
    let front : r ≡ frame (payload_at len r) ++ behind_front r = is_frame r len f.octets w ∙ ap (λ (s : List ℕ). frame (payload_at len r) ++ s) (sym left) in
    let size : length (payload_at len r) ≡ len = length-take-le len (drop 8 r) (omega (arith, fits.fits, length-drop 8 r)) in
    let one : flat_map frame (payload_at len r ∷ []) ≡ frame (payload_at len r) = append-nil (frame (payload_at len r)) in
    record {
      payloads = f.payloads ++ payload_at len r ∷ [];
      count = let l = length-append f.payloads (payload_at len r ∷ []) in let c = f.count in let s : length (payload_at len r ∷ []) ≡ 1 = refl in omega (arith, l, c, s);
      whole = f.whole
          ∙ ap (λ (s : List ℕ). flat_map frame f.payloads ++ s) front
          ∙ sym (append_assoc (flat_map frame f.payloads) (frame (payload_at len r)) (behind_front r))
          ∙ ap (λ (s : List ℕ). (flat_map frame f.payloads ++ s) ++ behind_front r) (sym one)
          ∙ ap (λ (s : List ℕ). s ++ behind_front r) (sym (flat_map-append frame f.payloads (payload_at len r ∷ [])));
      each = All-push IsPayload f.payloads (payload_at len r) f.each (omega (arith, size, fits.short));
      octets = subst AreOctets (sym left) (All-drop (λ b. b < 256) (8 + len) r f.octets);
    }

pub fronts : (n : ℕ) (bytes : List ℕ) → AreOctets bytes → AreWhole n bytes → Fronts n bytes
fronts zero bytes o w = record { payloads = []; count = refl; whole = refl; each = All-nil IsPayload; octets = o }
fronts (suc n) bytes o w = fronts_more n w.1.0 bytes w.1.1 (fronts n bytes o w.0)

frames_of : (n : ℕ) (bytes : List ℕ) (f : Fronts n bytes) → IsRest (behind_frames n bytes) → Frames bytes f.payloads (behind_frames n bytes)
frames_of n bytes f r = record { whole = f.whole; each = f.each; longest = r }

-- where nothing is whole behind so many frames, they are all
pub counts : (n : ℕ) (bytes : List ℕ) → AreOctets bytes → AreWhole n bytes → whole_at (behind_frames n bytes) ≡ Ok None → (payloads : List (List ℕ)) (rest : List ℕ) → Frames bytes payloads rest → length payloads ≡ n
counts n bytes o w h payloads rest g =
    let f = fronts n bytes o w in
    ap length (one_reading bytes rest (behind_frames n bytes) payloads f.payloads g (frames_of n bytes f (none_rest (behind_frames n bytes) h))) ∙ f.count

-- and where the stream has no fault, none is found there
pub no_fault : (n : ℕ) (bytes : List ℕ) (fault : FrameFault) → AreOctets bytes → AreWhole n bytes → ((payloads : List (List ℕ)) (rest : List ℕ) → Frames bytes payloads rest → IsRight rest) → whole_at (behind_frames n bytes) ≡ Err fault → ⊥
no_fault n bytes fault o w right h =
    let f = fronts n bytes o w in
    let is = fault_is (behind_frames n bytes) fault h in
    right f.payloads (behind_frames n bytes) (frames_of n bytes f (fault_rest (behind_frames n bytes) fault is)) fault is

-- Whatever a run heard are octets.

abbrev pub AreHeard : List Seen → Type 0
AreHeard [] = Unit {0}
AreHeard (steps.Heard at event ∷ past) = AreHeard past × AreOctets (brought event)
AreHeard (Did act taken ∷ past) = AreHeard past

none_brought : AreOctets []
none_brought = All-nil (λ b. b < 256)

brought_if : (b : Bool) (e : Event) → AreOctets (brought e) → AreOctets (brought (if b then e else Clock))
brought_if true e o = o
brought_if false e o = none_brought

brings : (k : ℕ) (w : What) (bytes : List ℕ) → Brings w bytes → AreOctets (brought (event_at k w bytes))
brings k (what.Came post token) bytes b = brought_if (post == k) (Came token) none_brought
brings k (what.Bytes post n) bytes b = brought_if (post == k) (Bytes bytes) (octets_of bytes b.2.bounds)
brings k (what.Gone post) bytes b = brought_if (post == k) Gone none_brought
brings k (what.Datagram post n) bytes b = brought_if (post == k) (Datagram bytes) none_brought
brings k (what.Plant post event) bytes b = brought_if (post == k) (Plant event) none_brought
brings k what.Tick bytes b = none_brought
brings k what.Over bytes b = none_brought

heard_if : (b : Bool) (x : Seen) (past : List Seen) → (AreHeard past → AreHeard (x ∷ past)) → AreHeard past → AreHeard (if b then x ∷ past else past)
heard_if true x past f h = f h
heard_if false x past f h = h

acted_heard : (k n : ℕ) (a : Act) (taken : Bool) (past : List Entry) → AreHeard (seen k past) → AreHeard (seen k (entry_of n a taken ∷ past))
acted_heard k n (Give o) taken past h = heard_if (n == k) (Did (Give o) taken) (seen k past) (λ x. x) h
acted_heard k n (Send bytes) taken past h = heard_if (n == k) (Did (Send bytes) taken) (seen k past) (λ x. x) h
acted_heard k n (Answer bytes) taken past h = heard_if (n == k) (Did (Answer bytes) taken) (seen k past) (λ x. x) h
acted_heard k n (End cause) taken past h = heard_if (n == k) (Did (End cause) true) (seen k past) (λ x. x) h

heard_heard : (k : ℕ) (past : List Entry) (posts : List Post) (e : Entry) (later : List Post) → HeardBy past posts e later → AreHeard (seen k past) → AreHeard (seen k (e ∷ past))
heard_heard k past posts (entry.Heard heard bytes) later h a = (a, brings k heard.what bytes h.1.brings)
heard_heard k past posts entry.Lost later h a = a
heard_heard k past posts (entry.Sent post bytes taken) later h a = absurd h
heard_heard k past posts (entry.Answered post bytes taken) later h a = absurd h
heard_heard k past posts (entry.Drove post order taken) later h a = absurd h
heard_heard k past posts (entry.Dialed port taken) later h a = absurd h
heard_heard k past posts (entry.Ended post cause) later h a = absurd h

pub run_heard : (c : Codecs) (site : SitePlan) (past : List Entry) (posts : List Post) (k : ℕ) → IsRun c site past posts → AreHeard (seen k past)
run_heard c site [] posts k run = tt
run_heard c site (e ∷ past) posts k (before, run, inl hears) = heard_heard k past before e posts hears.heard (run_heard c site past before k run)
run_heard c site (e ∷ past) posts k (before, run, inr acts) =
    subst (λ (x : Entry). AreHeard (seen k (x ∷ past))) (sym acts.entry_is) (acted_heard k (length acts.before + 1) acts.act acts.taken past (run_heard c site past before k run))

-- and so is the stream of a session
heard_with : (x : Seen) (lives : Option (List Seen)) (es : List Seen) → with_seen x lives ≡ Some es → ((zs : List Seen) → lives ≡ Some zs → AreOctets (stream (x ∷ zs))) → AreOctets (stream es)
heard_with x None es k f = cc
heard_with x (Some zs) es k f = let y : x ∷ zs ≡ es = cc in subst (λ (ys : List Seen). AreOctets (stream ys)) y (f zs refl)

came_octets : (past : List Seen) (came : Seen) → arriving past ≡ Some came → stream (came ∷ []) ≡ []
came_octets [] came a = cc
came_octets (steps.Heard at (Came token) ∷ past) came a = let x : steps.Heard at (Came token) ≡ came = cc in subst (λ (y : Seen). stream (y ∷ []) ≡ []) x refl
came_octets (steps.Heard at (Bytes bytes) ∷ past) came a = cc
came_octets (steps.Heard at Gone ∷ past) came a = cc
came_octets (steps.Heard at (Datagram bytes) ∷ past) came a = cc
came_octets (steps.Heard at (Plant event) ∷ past) came a = cc
came_octets (steps.Heard at Clock ∷ past) came a = cc
came_octets (steps.Heard at Over ∷ past) came a = cc
came_octets (Did act taken ∷ past) came a = came_octets past came a

begun_octets : (past es : List Seen) (came : Option Seen) → arriving past ≡ came → session_behind came (session past) ≡ Some es → ((zs : List Seen) → session past ≡ Some zs → AreOctets (stream zs)) → AreOctets (stream es)
begun_octets past es None a k f = f es k
begun_octets past es (Some came) a k f = let y : came ∷ [] ≡ es = cc in subst (λ (ys : List Seen). AreOctets (stream ys)) y (subst AreOctets (sym (came_octets past came a)) none_brought)

pub stream_octets : (past es : List Seen) → AreHeard past → session past ≡ Some es → AreOctets (stream es)
stream_octets [] es h k = cc
stream_octets (steps.Heard at e ∷ past) es h k =
    heard_with (steps.Heard at e) (session_behind (arriving past) (session past)) es k
    (λ zs l. All-append (λ b. b < 256) (stream zs) (brought e) (begun_octets past zs (arriving past) refl l (λ ys m. stream_octets past ys h.0 m)) h.1)
stream_octets (Did (Give o) taken ∷ past) es h k = heard_with (Did (Give o) taken) (session past) es k (λ zs l. stream_octets past zs h l)
stream_octets (Did (Answer bytes) taken ∷ past) es h k = heard_with (Did (Answer bytes) taken) (session past) es k (λ zs l. stream_octets past zs h l)
stream_octets (Did (Send bytes) taken ∷ past) es h k = heard_with (Did (Send bytes) taken) (session past) es k (λ zs l. stream_octets past zs h l)
stream_octets (Did (End cause) taken ∷ past) es h k = cc

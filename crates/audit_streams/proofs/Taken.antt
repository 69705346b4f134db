-- One more word of a stream is taken.
use Rattle.std.proofs.Common.{◌≡◌, ℕ, ◌<◌, ◌∙◌, sym, ap, subst, refl, drop, true, List, [], ◌∷◌, ◌++◌, length, Option, Some, None, Ok, Err, append_assoc, arith}
use Rattle.std.specs.List.{flat_map}
use Rattle.std.specs.Prelude.{All, suc, is_some}
use Rattle.std.proofs.lemmas.List.{append-nil, length-drop, length-take-le, length_push, flat_map_more}
use Rattle.std.proofs.lemmas.List.Elements.{All-push}
use Rattle.charge_world.specs.declared.offer.Dialect.{Dialect}
use Rattle.v2gtp_frames.specs.declared.FrameFault.{FrameFault}
use Rattle.v2gtp_frames.specs.Frames.{frame, IsPayload}
use Rattle.v2gtp_frames.specs.Reading.{whole_at, payload_at, behind_front}
use Rattle.v2gtp_frames.proofs.Again.{is_frame}
use Rattle.v2gtp_frames.proofs.Ends.{fault_is, is_fault, fault_stays}
use Rattle.v2gtp_frames.proofs.Growing.{whole_fits}
use Rattle.v2gtp_frames.proofs.Taking.{behind_whole}
use Rattle.post_spec.specs.Codecs.{Judged, Codecs, Judges}
use Rattle.post_spec.specs.Spelled.{AreDetermined}
use Rattle.post_spec.specs.Words.{HeardWord, Payload, Fault, Words, chosen_by}
use Rattle.told_pasts.specs.Reading.{spoken_in}
use Rattle.audit_streams.specs.declared.reader.ToldWord.{ToldWord}
use Rattle.audit_streams.specs.declared.reader.ToldWord.TheVariants.{BadFrame}
use Rattle.audit_streams.specs.declared.streams.Speech.{Speech}
use Rattle.audit_streams.specs.declared.streams.Speech.TheVariants.{First, Spoken, Unchosen, Over}
use Rattle.audit_streams.specs.declared.streams.WordStream.{WordStream}
use Rattle.audit_streams.specs.Streams.{Left, AreTaken, speech_of, speech_in, speech_behind, IsOpen, SpeaksSo, IsSkipped, IsBare, IsKept, IsLooked, IsJudged, GoesOn, Skips, Dropped, Drops, Fed, Feeds}
use Rattle.audit_streams.specs.Words.{IsWord}
use Rattle.audit_streams.proofs.Left.{left_front, front_left, skip_left, left_skip, left_fault, fault_left, all_left, left_all}

-- Nothing came yet.

pub taken_none : (c : Codecs) (offers : List Dialect) (unread : List ℕ) → unread ≡ [] → AreTaken c offers [] [] First unread
taken_none c offers unread e = record {
  left = λ more words w. (words, subst (λ (u : List ℕ). Left c offers First (u ++ more) words) (sym e) (all_left c offers more words w), refl);
  all = λ more later l. left_all c offers more later (subst (λ (u : List ℕ). Left c offers First (u ++ more) later) e l);
}

-- More comes.

pub taken_fed : (c : Codecs) (offers : List Dialect) (bytes piece : List ℕ) (taken : List HeardWord) (speech : Speech) (unread : List ℕ) → AreTaken c offers bytes taken speech unread → AreTaken c offers (bytes ++ piece) taken speech (unread ++ piece)
taken_fed c offers bytes piece taken speech unread t = record {
  left = λ more words w.
      let l = t.left (piece ++ more) words (subst (λ (b : List ℕ). Words c offers b words) (append_assoc bytes piece more) w) in
      (l.0, subst (λ (u : List ℕ). Left c offers speech u l.0) (sym (append_assoc unread piece more)) l.1, l.2);
  all = λ more later l.
      subst (λ (b : List ℕ). Words c offers b (taken ++ later)) (sym (append_assoc bytes piece more))
      (t.all (piece ++ more) later (subst (λ (u : List ℕ). Left c offers speech u later) (append_assoc unread piece more) l));
}

pub taken_over : (c : Codecs) (offers : List Dialect) (bytes piece : List ℕ) (taken : List HeardWord) (unread other : List ℕ) → AreTaken c offers bytes taken Over unread → AreTaken c offers (bytes ++ piece) taken Over other
taken_over c offers bytes piece taken unread other t = record {
  left = λ more words w. t.left (piece ++ more) words (subst (λ (b : List ℕ). Words c offers b words) (append_assoc bytes piece more) w);
  all = λ more later l. subst (λ (b : List ℕ). Words c offers b (taken ++ later)) (sym (append_assoc bytes piece more)) (t.all (piece ++ more) later l);
}

-- A payload is taken.

pub record AtFront (unread : List ℕ) (n : ℕ) : Type 0 where
  pub short : IsPayload (payload_at n unread)
  pub whole : unread ≡ frame (payload_at n unread) ++ behind_front unread

pub at_front : (unread : List ℕ) (n : ℕ) → All (λ byte. byte < 256) unread → whole_at unread ≡ Ok (Some n) → AtFront unread n
at_front unread n octets w =
    let fits = whole_fits unread n w in
    let size : length (payload_at n unread) ≡ n = length-take-le n (drop 8 unread) (omega (arith, fits.fits, length-drop 8 unread)) in
    record {
      short = omega (arith, size, fits.short);
      whole = is_frame unread n octets w ∙ ap (λ (s : List ℕ). frame (payload_at n unread) ++ s) (sym (behind_whole unread n w));
    }

front_more : (unread more : List ℕ) (n : ℕ) → AtFront unread n → unread ++ more ≡ frame (payload_at n unread) ++ (behind_front unread ++ more)
front_more unread more n f = ap (λ (s : List ℕ). s ++ more) f.whole ∙ append_assoc (frame (payload_at n unread)) (behind_front unread) more

pub taken_more : (c : Codecs) (offers : List Dialect) (spoken : Option Dialect) (bytes : List ℕ) (taken : List HeardWord) (unread : List ℕ) (n : ℕ) (j : Judged) → AreDetermined c → AtFront unread n → Judges c offers spoken (payload_at n unread) j
    → AreTaken c offers bytes taken (speech_in spoken) unread → AreTaken c offers bytes (taken ++ Payload j ∷ []) (speech_behind spoken (chosen_by j)) (behind_front unread)
taken_more c offers spoken bytes taken unread n j det f is t = record {
  left = λ more words w.
      let l = t.left more words w in
      let k = left_front c offers spoken (payload_at n unread) (behind_front unread ++ more) l.0 j det is f.short
      (subst (λ (u : List ℕ). Left c offers (speech_in spoken) u l.0) (front_more unread more n f) l.1) in
      (k.later, k.left, l.2 ∙ ap (λ (ws : List HeardWord). taken ++ ws) k.words_are ∙ sym (append_assoc taken (Payload j ∷ []) k.later));
  all = λ more later l.
      subst (λ (ws : List HeardWord). Words c offers (bytes ++ more) ws) (sym (append_assoc taken (Payload j ∷ []) later))
      (t.all more (Payload j ∷ later) (subst (λ (u : List ℕ). Left c offers (speech_in spoken) u (Payload j ∷ later)) (sym (front_more unread more n f))
      (front_left c offers spoken (payload_at n unread) (behind_front unread ++ more) later j is f.short l)));
}

-- Frames that are no words are skipped.

skipped_more : (old new more : List ℕ) (s : Skips old new) → old ++ more ≡ flat_map frame s.payloads ++ (new ++ more)
skipped_more old new more s = ap (λ (x : List ℕ). x ++ more) s.old_is ∙ append_assoc (flat_map frame s.payloads) new more

pub taken_skipped : (c : Codecs) (offers : List Dialect) (bytes : List ℕ) (taken : List HeardWord) (old new : List ℕ) → Skips old new → AreTaken c offers bytes taken Unchosen old → AreTaken c offers bytes taken Unchosen new
taken_skipped c offers bytes taken old new s t = record {
  left = λ more words w.
      let l = t.left more words w in
      (l.0, skip_left c offers s.payloads (new ++ more) l.0 s.each (subst (λ (u : List ℕ). Left c offers Unchosen u l.0) (skipped_more old new more s) l.1), l.2);
  all = λ more later l.
      t.all more later (subst (λ (u : List ℕ). Left c offers Unchosen u later) (sym (skipped_more old new more s)) (left_skip c offers s.payloads (new ++ more) later s.each l));
}

pub taken_dropped : (c : Codecs) (offers : List Dialect) (bytes : List ℕ) (taken : List HeardWord) (speech : Speech) (old new : List ℕ) → Dropped speech old new → AreTaken c offers bytes taken speech old → AreTaken c offers bytes taken speech new
taken_dropped c offers bytes taken First old new d t = subst (λ (u : List ℕ). AreTaken c offers bytes taken First u) (sym d) t
taken_dropped c offers bytes taken (Spoken dialect) old new d t = subst (λ (u : List ℕ). AreTaken c offers bytes taken (Spoken dialect) u) (sym d) t
taken_dropped c offers bytes taken Unchosen old new d t = taken_skipped c offers bytes taken old new d t
taken_dropped c offers bytes taken Over old new d t = subst (λ (u : List ℕ). AreTaken c offers bytes taken Over u) (sym d) t

pub skips_none : (bytes : List ℕ) → Skips bytes bytes
skips_none bytes = record { payloads = []; each = λ k d h. absurd (let l : length {A = List ℕ} [] ≡ 0 = refl in omega (arith, h, l)); old_is = refl }

pub skips_more : (old mid : List ℕ) (n : ℕ) → All (λ byte. byte < 256) mid → whole_at mid ≡ Ok (Some n) → Skips old mid → Skips old (behind_front mid)
skips_more old mid n octets w s =
    let f = at_front mid n octets w in
    record {
      payloads = s.payloads ++ payload_at n mid ∷ [];
      each = All-push IsPayload s.payloads (payload_at n mid) s.each f.short;
      old_is = s.old_is
          ∙ ap (λ (x : List ℕ). flat_map frame s.payloads ++ x) f.whole
          ∙ sym (append_assoc (flat_map frame s.payloads) (frame (payload_at n mid)) (behind_front mid))
          ∙ ap (λ (x : List ℕ). x ++ behind_front mid) (flat_map_more frame [] s.payloads (payload_at n mid));
    }

-- The fault of a frame is taken.

stays : (unread more : List ℕ) (fault : FrameFault) → whole_at unread ≡ Err fault → whole_at (unread ++ more) ≡ Err fault
stays unread more fault w = is_fault (unread ++ more) fault (fault_stays unread more fault (fault_is unread fault w))

pub taken_fault : (c : Codecs) (offers : List Dialect) (bytes : List ℕ) (taken : List HeardWord) (speech : Speech) (unread : List ℕ) (fault : FrameFault) → (speech ≡ Over → ⊥) → whole_at unread ≡ Err fault
    → AreTaken c offers bytes taken speech unread → AreTaken c offers bytes (taken ++ Fault fault ∷ []) Over unread
taken_fault c offers bytes taken speech unread fault goes w t = record {
  left = λ more words v.
      let l = t.left more words v in
      let one = left_fault c offers speech (unread ++ more) l.0 fault goes (stays unread more fault w) l.1 in
      ([], refl, l.2 ∙ ap (λ (ws : List HeardWord). taken ++ ws) one ∙ sym (append-nil (taken ++ Fault fault ∷ [])));
  all = λ more later l.
      subst (λ (ws : List HeardWord). Words c offers (bytes ++ more) ws)
      (sym (append-nil (taken ++ Fault fault ∷ [])) ∙ ap (λ (ws : List HeardWord). (taken ++ Fault fault ∷ []) ++ ws) (sym l))
      (t.all more (Fault fault ∷ []) (fault_left c offers speech (unread ++ more) fault goes (stays unread more fault w)));
}

-- What is kept then.

spoken_more : (taken : List HeardWord) (word : HeardWord) (d : Dialect) → spoken_in taken ≡ Some d → spoken_in (taken ++ word ∷ []) ≡ Some d
spoken_more [] word d e = cc
spoken_more (Payload judged ∷ ws) word d e = e
spoken_more (Fault fault ∷ ws) word d e = e

one_more : (taken : List HeardWord) (word : HeardWord) → 0 < length (taken ++ word ∷ [])
one_more taken word = let l = length_push taken word in omega (arith, l)

chosen_speaks : (chosen : Option Dialect) (j : Judged) (kept : Option ToldWord) → chosen_by j ≡ chosen → SpeaksSo (speech_of chosen) (Payload j ∷ []) kept
chosen_speaks None j kept e = (omega arith, e)
chosen_speaks (Some d) j kept e = e

speaks_more : (spoken : Option Dialect) (taken : List HeardWord) (j : Judged) (before kept : Option ToldWord) → SpeaksSo (speech_in spoken) taken before → SpeaksSo (speech_behind spoken (chosen_by j)) (taken ++ Payload j ∷ []) kept
speaks_more None taken j before kept s = subst (λ (ws : List HeardWord). SpeaksSo (speech_of (chosen_by j)) (ws ++ Payload j ∷ []) kept) (sym s) (chosen_speaks (chosen_by j) j kept refl)
speaks_more (Some d) taken j before kept s = spoken_more taken (Payload j) d s

open_more : (count : ℕ) (taken : List HeardWord) (word : HeardWord) (kept : ToldWord) → IsOpen count taken None → IsWord kept word → IsOpen count (taken ++ word ∷ []) (Some kept)
open_more count taken word kept o is = (taken, word, refl, o, is)

-- from the parts of what is kept before
pub kept_more : (c : Codecs) (offers : List Dialect) (spoken : Option Dialect) (bytes : List ℕ) (count n : ℕ) (old : WordStream) (kept : ToldWord) (speech : Speech) (unread : List ℕ) → AreDetermined c → All (λ byte. byte < 256) old.unread → whole_at old.unread ≡ Ok (Some n)
    → old.speech ≡ speech_in spoken → old.kept ≡ None → IsJudged c offers spoken (payload_at n old.unread) kept → GoesOn spoken kept speech → IsKept c offers bytes count old
    → Dropped speech (behind_front old.unread) unread → IsSkipped speech unread → IsKept c offers bytes count (record { speech = speech; kept = Some kept; unread = unread })
kept_more c offers spoken bytes count n old kept speech unread det octets w s none (j, by, is) goes k dropped skipped =
    let e : speech ≡ speech_behind spoken (chosen_by j) = goes j is in
    let t = taken_more c offers spoken bytes k.taken old.unread n j det (at_front old.unread n octets w) by (subst (λ (x : Speech). AreTaken c offers bytes k.taken x old.unread) s k.are) in
    record {
      taken = k.taken ++ Payload j ∷ [];
      are = taken_dropped c offers bytes (k.taken ++ Payload j ∷ []) speech (behind_front old.unread) unread dropped
          (subst (λ (x : Speech). AreTaken c offers bytes (k.taken ++ Payload j ∷ []) x (behind_front old.unread)) (sym e) t);
      is = open_more count k.taken (Payload j) kept (subst (IsOpen count k.taken) none k.is) is;
      speaks = subst (λ (x : Speech). SpeaksSo x (k.taken ++ Payload j ∷ []) (Some kept)) (sym e)
          (speaks_more spoken k.taken j old.kept (Some kept) (subst (λ (x : Speech). SpeaksSo x k.taken old.kept) s k.speaks));
      skipped = skipped;
    }

pub kept_fault : (c : Codecs) (offers : List Dialect) (bytes : List ℕ) (count : ℕ) (old : WordStream) (fault : FrameFault) → (old.speech ≡ Over → ⊥) → whole_at old.unread ≡ Err fault → old.kept ≡ None → IsKept c offers bytes count old
    → IsKept c offers bytes count (record { speech = Over; kept = Some (BadFrame fault); unread = old.unread })
kept_fault c offers bytes count old fault goes w none k = record {
  taken = k.taken ++ Fault fault ∷ [];
  are = taken_fault c offers bytes k.taken old.speech old.unread fault goes w k.are;
  is = open_more count k.taken (Fault fault) (BadFrame fault) (subst (IsOpen count k.taken) none k.is) refl;
  speaks = tt;
  skipped = tt;
}

pub kept_none : (c : Codecs) (offers : List Dialect) (w : WordStream) → w.speech ≡ First → w.kept ≡ None → w.unread ≡ [] → IsKept c offers [] 0 w
kept_none c offers w s k u = record {
  taken = [];
  are = subst (λ (x : Speech). AreTaken c offers [] [] x w.unread) (sym s) (taken_none c offers w.unread u);
  is = subst (IsOpen 0 []) (sym k) refl;
  speaks = subst (λ (x : Speech). SpeaksSo x [] w.kept) (sym s) refl;
  skipped = subst (λ (x : Speech). IsSkipped x w.unread) (sym s) tt;
}

-- behind a word that was taken
pub kept_taken : (c : Codecs) (offers : List Dialect) (spoken : Option Dialect) (bytes : List ℕ) (count n : ℕ) (old : WordStream) (kept : ToldWord) (speech : Speech) (passed : List ℕ) (new : WordStream) → AreDetermined c → All (λ byte. byte < 256) old.unread → whole_at old.unread ≡ Ok (Some n)
    → old.speech ≡ speech_in spoken → old.kept ≡ None → IsJudged c offers spoken (payload_at n old.unread) kept → GoesOn spoken kept speech → passed ≡ behind_front old.unread → Drops (record { speech = speech; kept = Some kept; unread = passed }) new → IsKept c offers bytes count old
    → IsKept c offers bytes count new × IsLooked new.kept new
kept_taken c offers spoken bytes count n old kept speech passed new det octets w s none is goes e d k =
    let m = kept_more c offers spoken bytes count n old kept speech new.unread det octets w s none is goes k (subst (λ (u : List ℕ). Dropped speech u new.unread) e d.unread_is) (subst (λ (x : Speech). IsSkipped x new.unread) d.speech_is d.skipped) in (
      record {
        taken = m.taken;
        are = subst (λ (x : Speech). AreTaken c offers bytes m.taken x new.unread) (sym d.speech_is) m.are;
        is = subst (IsOpen count m.taken) (sym d.kept_is) m.is;
        speaks = subst (λ (x : Speech). SpeaksSo x m.taken new.kept) (sym d.speech_is) (subst (λ (o : Option ToldWord). SpeaksSo speech m.taken o) (sym d.kept_is) m.speaks);
        skipped = d.skipped;
      },
      subst (λ (o : Option ToldWord). IsLooked o new) (sym d.kept_is) tt,
    )

-- behind bytes that came
fed_taken : (c : Codecs) (offers : List Dialect) (bytes piece : List ℕ) (taken : List HeardWord) (speech : Speech) (old new : List ℕ) → Fed speech old piece new → AreTaken c offers bytes taken speech old → AreTaken c offers (bytes ++ piece) taken speech new
fed_taken c offers bytes piece taken First old new f t = subst (λ (u : List ℕ). AreTaken c offers (bytes ++ piece) taken First u) (sym f) (taken_fed c offers bytes piece taken First old t)
fed_taken c offers bytes piece taken (Spoken d) old new f t = subst (λ (u : List ℕ). AreTaken c offers (bytes ++ piece) taken (Spoken d) u) (sym f) (taken_fed c offers bytes piece taken (Spoken d) old t)
fed_taken c offers bytes piece taken Unchosen old new f t = subst (λ (u : List ℕ). AreTaken c offers (bytes ++ piece) taken Unchosen u) (sym f) (taken_fed c offers bytes piece taken Unchosen old t)
fed_taken c offers bytes piece taken Over old new f t = taken_over c offers bytes piece taken old new t

pub kept_fed : (c : Codecs) (offers : List Dialect) (bytes piece : List ℕ) (count : ℕ) (old mid new : WordStream) → IsKept c offers bytes count old → IsBare old.speech old.unread → Feeds piece old mid → Drops mid new → IsKept c offers (bytes ++ piece) count new
kept_fed c offers bytes piece count old mid new k bare f d =
    let speech : new.speech ≡ old.speech = d.speech_is ∙ f.speech_is in
    let kept : new.kept ≡ old.kept = d.kept_is ∙ f.kept_is in
    let fed = fed_taken c offers bytes piece k.taken old.speech old.unread mid.unread (f.unread_is bare) k.are in
    record {
      taken = k.taken;
      are = subst (λ (x : Speech). AreTaken c offers (bytes ++ piece) k.taken x new.unread) (sym speech)
          (taken_dropped c offers (bytes ++ piece) k.taken old.speech mid.unread new.unread (subst (λ (x : Speech). Dropped x mid.unread new.unread) f.speech_is d.unread_is) fed);
      is = subst (IsOpen count k.taken) (sym kept) k.is;
      speaks = subst (λ (x : Speech). SpeaksSo x k.taken new.kept) (sym speech) (subst (λ (o : Option ToldWord). SpeaksSo old.speech k.taken o) (sym kept) k.speaks);
      skipped = d.skipped;
    }

-- behind a reply
open_less : (count : ℕ) (taken : List HeardWord) (kept : Option ToldWord) → is_some kept ≡ true → IsOpen count taken kept → IsOpen (suc count) taken None
open_less count taken None is o = cc
open_less count taken (Some kept) is (answered, word, whole, long, same) =
    let l = length_push answered word in
    let m : length taken ≡ length (answered ++ word ∷ []) = ap length whole in
    omega (arith, l, m, long)

speaks_less : (speech : Speech) (taken : List HeardWord) (kept : Option ToldWord) → SpeaksSo speech taken kept → SpeaksSo speech taken None
speaks_less First taken kept s = s
speaks_less (Spoken d) taken kept s = s
speaks_less Unchosen taken kept s = s
speaks_less Over taken kept s = tt

pub kept_answered : (c : Codecs) (offers : List Dialect) (bytes : List ℕ) (count : ℕ) (old : WordStream) → is_some old.kept ≡ true → IsKept c offers bytes count old → IsKept c offers bytes (suc count) (record { speech = old.speech; kept = None; unread = old.unread })
kept_answered c offers bytes count old is k =
    record { taken = k.taken; are = k.are; is = open_less count k.taken old.kept is k.is; speaks = speaks_less old.speech k.taken old.kept k.speaks; skipped = k.skipped }

-- The words of what is left of a stream, from its front.
use Rattle.std.proofs.Common.{◌≡◌, ℕ, ◌∙◌, sym, ap, subst, refl, List, [], ◌∷◌, ◌++◌, Option, Some, None, Result, Ok, Err, append_assoc}
use Rattle.std.specs.List.{flat_map}
use Rattle.std.specs.Prelude.{All}
use Rattle.std.proofs.lemmas.List.Elements.{All-head, All-tail}
use Rattle.charge_world.specs.declared.offer.Dialect.{Dialect}
use Rattle.v2gtp_frames.specs.declared.FrameFault.{FrameFault}
use Rattle.v2gtp_frames.specs.Frames.{frame, IsPayload}
use Rattle.v2gtp_frames.specs.Reading.{whole_at}
use Rattle.v2gtp_frames.proofs.Ends.{fault_is, is_fault, none_right, none_rest, fault_rest}
use Rattle.post_spec.specs.Codecs.{Judged, Codecs, Judges, judged_word}
use Rattle.post_spec.specs.Spelled.{AreDetermined}
use Rattle.post_spec.specs.Words.{HeardWord, Payload, Fault, AreRead, AreJudged, EndsSo, Words, chosen_by}
use Rattle.audit_streams.specs.declared.streams.Speech.{Speech}
use Rattle.audit_streams.specs.declared.streams.Speech.TheVariants.{First, Spoken, Unchosen, Over}
use Rattle.audit_streams.specs.Streams.{ReadSo, Later, Left, speech_of, speech_in, speech_behind}
use Rattle.audit_streams.specs.Words.{JudgesFirst, JudgesLater}
use Rattle.audit_streams.proofs.Fronts.{front_taken, with_front, no_frames, rest_alone, cut_of}

-- A payload is judged in one way.

pub same_judged : (c : Codecs) (offers : List Dialect) (spoken : Option Dialect) (p : List ℕ) (i j : Judged) → AreDetermined c → Judges c offers spoken p i → Judges c offers spoken p j → i ≡ j
same_judged c offers None p i j det a b = det.negotiates offers p i j a b
same_judged c offers (Some d) p i j det a b = a.2 ∙ ap judged_word (det.reads d p a.0 b.0 a.1 b.1) ∙ sym b.2

-- The first payload, and those behind it.

read_of : (c : Codecs) (offers : List Dialect) (chosen : Option Dialect) (ps : List (List ℕ)) (ws : List HeardWord) → AreRead c offers chosen ps ws → ReadSo c offers (speech_of chosen) ps ws
read_of c offers None ps ws a = a
read_of c offers (Some d) ps ws a = a

of_read : (c : Codecs) (offers : List Dialect) (chosen : Option Dialect) (ps : List (List ℕ)) (ws : List HeardWord) → ReadSo c offers (speech_of chosen) ps ws → AreRead c offers chosen ps ws
of_read c offers None ps ws a = a
of_read c offers (Some d) ps ws a = a

record Fronted (c : Codecs) (offers : List Dialect) (spoken : Option Dialect) (j : Judged) (ps : List (List ℕ)) (front : List HeardWord) : Type 0 where
  ws : List HeardWord
  front_is : front ≡ Payload j ∷ ws
  read : ReadSo c offers (speech_behind spoken (chosen_by j)) ps ws

read_front : (c : Codecs) (offers : List Dialect) (spoken : Option Dialect) (p : List ℕ) (ps : List (List ℕ)) (front : List HeardWord) (j : Judged) → AreDetermined c → Judges c offers spoken p j → ReadSo c offers (speech_in spoken) (p ∷ ps) front → Fronted c offers spoken j ps front
read_front c offers None p ps [] j det is a = absurd a
read_front c offers None p ps (Fault fault ∷ ws) j det is a = absurd a
read_front c offers None p ps (Payload i ∷ ws) j det is a =
    let same : i ≡ j = same_judged c offers None p i j det a.0 is in
    record { ws = ws; front_is = ap (λ (x : Judged). Payload x ∷ ws) same; read = read_of c offers (chosen_by j) ps ws (subst (λ (x : Judged). AreRead c offers (chosen_by x) ps ws) same a.1) }
read_front c offers (Some d) p ps [] j det is a = absurd a
read_front c offers (Some d) p ps (Fault fault ∷ ws) j det is a = absurd a
read_front c offers (Some d) p ps (Payload i ∷ ws) j det is a =
    let same : i ≡ j = same_judged c offers (Some d) p i j det a.0 is in
    record { ws = ws; front_is = ap (λ (x : Judged). Payload x ∷ ws) same; read = a.1 }

front_read : (c : Codecs) (offers : List Dialect) (spoken : Option Dialect) (p : List ℕ) (ps : List (List ℕ)) (ws : List HeardWord) (j : Judged) → Judges c offers spoken p j → ReadSo c offers (speech_behind spoken (chosen_by j)) ps ws → ReadSo c offers (speech_in spoken) (p ∷ ps) (Payload j ∷ ws)
front_read c offers None p ps ws j is a = (is, of_read c offers (chosen_by j) ps ws a)
front_read c offers (Some d) p ps ws j is a = (is, a)

left_in : (c : Codecs) (offers : List Dialect) (spoken : Option Dialect) (bytes : List ℕ) (ws : List HeardWord) → Later c offers (speech_in spoken) bytes ws → Left c offers (speech_in spoken) bytes ws
left_in c offers None bytes ws l = l
left_in c offers (Some d) bytes ws l = l

in_left : (c : Codecs) (offers : List Dialect) (spoken : Option Dialect) (bytes : List ℕ) (ws : List HeardWord) → Left c offers (speech_in spoken) bytes ws → Later c offers (speech_in spoken) bytes ws
in_left c offers None bytes ws l = l
in_left c offers (Some d) bytes ws l = l

left_behind : (c : Codecs) (offers : List Dialect) (spoken chosen : Option Dialect) (bytes : List ℕ) (ws : List HeardWord) → Later c offers (speech_behind spoken chosen) bytes ws → Left c offers (speech_behind spoken chosen) bytes ws
left_behind c offers None None bytes ws l = l
left_behind c offers None (Some d) bytes ws l = l
left_behind c offers (Some d) chosen bytes ws l = l

behind_left : (c : Codecs) (offers : List Dialect) (spoken chosen : Option Dialect) (bytes : List ℕ) (ws : List HeardWord) → Left c offers (speech_behind spoken chosen) bytes ws → Later c offers (speech_behind spoken chosen) bytes ws
behind_left c offers None None bytes ws l = l
behind_left c offers None (Some d) bytes ws l = l
behind_left c offers (Some d) chosen bytes ws l = l

pub record FrontLeft (c : Codecs) (offers : List Dialect) (spoken : Option Dialect) (j : Judged) (bytes : List ℕ) (words : List HeardWord) : Type 0 where
  pub later : List HeardWord
  pub left : Left c offers (speech_behind spoken (chosen_by j)) bytes later
  pub words_are : words ≡ Payload j ∷ later

later_front : (c : Codecs) (offers : List Dialect) (spoken : Option Dialect) (p x : List ℕ) (words : List HeardWord) (j : Judged) → AreDetermined c → Judges c offers spoken p j → IsPayload p → Later c offers (speech_in spoken) (frame p ++ x) words → FrontLeft c offers spoken j x words
later_front c offers spoken p x words j det is short l =
    let b = front_taken p x l.rest l.payloads short l.frames in
    let f = read_front c offers spoken p b.later l.front j det is (subst (λ (ps : List (List ℕ)). ReadSo c offers (speech_in spoken) ps l.front) b.payloads_are l.read) in
    record {
      later = f.ws ++ l.behind;
      left = left_behind c offers spoken (chosen_by j) x (f.ws ++ l.behind)
          (record { payloads = b.later; rest = l.rest; frames = b.frames; front = f.ws; behind = l.behind; words_are = refl; read = f.read; ends = l.ends });
      words_are = l.words_are ∙ ap (λ (fs : List HeardWord). fs ++ l.behind) f.front_is;
    }

pub left_front : (c : Codecs) (offers : List Dialect) (spoken : Option Dialect) (p x : List ℕ) (words : List HeardWord) (j : Judged) → AreDetermined c → Judges c offers spoken p j → IsPayload p → Left c offers (speech_in spoken) (frame p ++ x) words → FrontLeft c offers spoken j x words
left_front c offers spoken p x words j det is short l = later_front c offers spoken p x words j det is short (in_left c offers spoken (frame p ++ x) words l)

front_later : (c : Codecs) (offers : List Dialect) (spoken : Option Dialect) (p x : List ℕ) (later : List HeardWord) (j : Judged) → Judges c offers spoken p j → IsPayload p → Later c offers (speech_behind spoken (chosen_by j)) x later → Later c offers (speech_in spoken) (frame p ++ x) (Payload j ∷ later)
front_later c offers spoken p x later j is short l = record {
  payloads = p ∷ l.payloads;
  rest = l.rest;
  frames = with_front p x l.rest l.payloads short l.frames;
  front = Payload j ∷ l.front;
  behind = l.behind;
  words_are = ap (λ (ws : List HeardWord). Payload j ∷ ws) l.words_are;
  read = front_read c offers spoken p l.payloads l.front j is l.read;
  ends = l.ends;
}

pub front_left : (c : Codecs) (offers : List Dialect) (spoken : Option Dialect) (p x : List ℕ) (later : List HeardWord) (j : Judged) → Judges c offers spoken p j → IsPayload p → Left c offers (speech_behind spoken (chosen_by j)) x later → Left c offers (speech_in spoken) (frame p ++ x) (Payload j ∷ later)
front_left c offers spoken p x later j is short l =
    left_in c offers spoken (frame p ++ x) (Payload j ∷ later) (front_later c offers spoken p x later j is short (behind_left c offers spoken (chosen_by j) x later l))

-- Where no dialect was chosen, frames are no words.

pub skip_left : (c : Codecs) (offers : List Dialect) (payloads : List (List ℕ)) (x : List ℕ) (words : List HeardWord) → All IsPayload payloads → Left c offers Unchosen (flat_map frame payloads ++ x) words → Left c offers Unchosen x words
skip_left c offers [] x words each l = l
skip_left c offers (p ∷ ps) x words each l =
    let s = subst (λ (bytes : List ℕ). Left c offers Unchosen bytes words) (append_assoc (frame p) (flat_map frame ps) x) l in
    let b = front_taken p (flat_map frame ps ++ x) s.rest s.payloads (All-head IsPayload p ps each) s.frames in
    skip_left c offers ps x words (All-tail IsPayload p ps each)
    (record { payloads = b.later; rest = s.rest; frames = b.frames; front = s.front; behind = s.behind; words_are = s.words_are; read = s.read; ends = s.ends })

pub left_skip : (c : Codecs) (offers : List Dialect) (payloads : List (List ℕ)) (x : List ℕ) (words : List HeardWord) → All IsPayload payloads → Left c offers Unchosen x words → Left c offers Unchosen (flat_map frame payloads ++ x) words
left_skip c offers [] x words each l = l
left_skip c offers (p ∷ ps) x words each l =
    let s = left_skip c offers ps x words (All-tail IsPayload p ps each) l in
    subst (λ (bytes : List ℕ). Left c offers Unchosen bytes words) (sym (append_assoc (frame p) (flat_map frame ps) x))
    (record {
      payloads = p ∷ s.payloads;
      rest = s.rest;
      frames = with_front p (flat_map frame ps ++ x) s.rest s.payloads (All-head IsPayload p ps each) s.frames;
      front = s.front;
      behind = s.behind;
      words_are = s.words_are;
      read = s.read;
      ends = s.ends;
    })

-- A fault is the last word.

abbrev wrong : FrameFault → Result (Option ℕ) FrameFault
wrong fault = Err fault

none_read : (c : Codecs) (offers : List Dialect) (speech : Speech) (front : List HeardWord) → ReadSo c offers speech [] front → front ≡ []
none_read c offers First front a = a
none_read c offers (Spoken d) front a = a
none_read c offers Unchosen front a = a
none_read c offers Over front a = absurd a

ends_fault : (rest : List ℕ) (fault : FrameFault) (behind : List HeardWord) → whole_at rest ≡ Err fault → EndsSo rest behind → behind ≡ Fault fault ∷ []
ends_fault rest fault [] w e = absurd (e fault (fault_is rest fault w))
ends_fault rest fault (Payload judged ∷ ws) w e = absurd e
ends_fault rest fault (Fault other ∷ []) w e = let x : wrong other ≡ wrong fault = sym (is_fault rest other e) ∙ w in cc
ends_fault rest fault (Fault other ∷ (word ∷ ws)) w e = absurd e

ends_none : (rest : List ℕ) (behind : List HeardWord) → whole_at rest ≡ Ok None → EndsSo rest behind → behind ≡ []
ends_none rest [] w e = refl
ends_none rest (Payload judged ∷ ws) w e = absurd e
ends_none rest (Fault fault ∷ []) w e = absurd (none_right rest w fault e)
ends_none rest (Fault fault ∷ (word ∷ ws)) w e = absurd e

later_fault : (c : Codecs) (offers : List Dialect) (speech : Speech) (bytes : List ℕ) (words : List HeardWord) (fault : FrameFault) → whole_at bytes ≡ Err fault → Later c offers speech bytes words → words ≡ Fault fault ∷ []
later_fault c offers speech bytes words fault w l =
    let n = no_frames bytes l.rest l.payloads (fault_rest bytes fault (fault_is bytes fault w)) l.frames in
    let front : l.front ≡ [] = none_read c offers speech l.front (subst (λ (ps : List (List ℕ)). ReadSo c offers speech ps l.front) n.0 l.read) in
    let behind : l.behind ≡ Fault fault ∷ [] = ends_fault l.rest fault l.behind (ap whole_at n.1 ∙ w) l.ends in
    l.words_are ∙ ap (λ (ws : List HeardWord). ws ++ l.behind) front ∙ behind

fault_later : (c : Codecs) (offers : List Dialect) (speech : Speech) (bytes : List ℕ) (fault : FrameFault) → whole_at bytes ≡ Err fault → ReadSo c offers speech [] [] → Later c offers speech bytes (Fault fault ∷ [])
fault_later c offers speech bytes fault w read =
    let is = fault_is bytes fault w in
    record { payloads = []; rest = bytes; frames = rest_alone bytes (fault_rest bytes fault is); front = []; behind = Fault fault ∷ []; words_are = refl; read = read; ends = is }

later_none : (c : Codecs) (offers : List Dialect) (speech : Speech) (bytes : List ℕ) (words : List HeardWord) → whole_at bytes ≡ Ok None → Later c offers speech bytes words → words ≡ []
later_none c offers speech bytes words w l =
    let n = no_frames bytes l.rest l.payloads (none_rest bytes w) l.frames in
    let front : l.front ≡ [] = none_read c offers speech l.front (subst (λ (ps : List (List ℕ)). ReadSo c offers speech ps l.front) n.0 l.read) in
    let behind : l.behind ≡ [] = ends_none l.rest l.behind (ap whole_at n.1 ∙ w) l.ends in
    l.words_are ∙ ap (λ (ws : List HeardWord). ws ++ l.behind) front ∙ behind

pub left_fault : (c : Codecs) (offers : List Dialect) (speech : Speech) (bytes : List ℕ) (words : List HeardWord) (fault : FrameFault) → (speech ≡ Over → ⊥) → whole_at bytes ≡ Err fault → Left c offers speech bytes words → words ≡ Fault fault ∷ []
left_fault c offers First bytes words fault goes w l = later_fault c offers First bytes words fault w l
left_fault c offers (Spoken d) bytes words fault goes w l = later_fault c offers (Spoken d) bytes words fault w l
left_fault c offers Unchosen bytes words fault goes w l = later_fault c offers Unchosen bytes words fault w l
left_fault c offers Over bytes words fault goes w l = absurd (goes refl)

pub fault_left : (c : Codecs) (offers : List Dialect) (speech : Speech) (bytes : List ℕ) (fault : FrameFault) → (speech ≡ Over → ⊥) → whole_at bytes ≡ Err fault → Left c offers speech bytes (Fault fault ∷ [])
fault_left c offers First bytes fault goes w = fault_later c offers First bytes fault w refl
fault_left c offers (Spoken d) bytes fault goes w = fault_later c offers (Spoken d) bytes fault w refl
fault_left c offers Unchosen bytes fault goes w = fault_later c offers Unchosen bytes fault w refl
fault_left c offers Over bytes fault goes w = absurd (goes refl)

pub left_none : (c : Codecs) (offers : List Dialect) (speech : Speech) (bytes : List ℕ) (words : List HeardWord) → whole_at bytes ≡ Ok None → Left c offers speech bytes words → words ≡ []
left_none c offers First bytes words w l = later_none c offers First bytes words w l
left_none c offers (Spoken d) bytes words w l = later_none c offers (Spoken d) bytes words w l
left_none c offers Unchosen bytes words w l = later_none c offers Unchosen bytes words w l
left_none c offers Over bytes words w l = l

-- There are words of what is left.

reads_later : (c : Codecs) (offers : List Dialect) (d : Dialect) (ps : List (List ℕ)) → JudgesLater c.Reads → All IsPayload ps → (ws : List HeardWord) × AreRead c offers (Some d) ps ws
reads_later c offers d [] all each = ([], refl)
reads_later c offers d (p ∷ ps) all each =
    let r = all d p (All-head IsPayload p ps each) in
    let m = reads_later c offers d ps all (All-tail IsPayload p ps each) in
    (Payload (judged_word r.0) ∷ m.0, ((r.0, r.1, refl), m.1))

reads_chosen : (c : Codecs) (offers : List Dialect) (chosen : Option Dialect) (ps : List (List ℕ)) → JudgesLater c.Reads → All IsPayload ps → (ws : List HeardWord) × AreRead c offers chosen ps ws
reads_chosen c offers None ps all each = ([], refl)
reads_chosen c offers (Some d) ps all each = reads_later c offers d ps all each

reads_first : (c : Codecs) (offers : List Dialect) (ps : List (List ℕ)) → JudgesFirst c.Negotiates → JudgesLater c.Reads → All IsPayload ps → (ws : List HeardWord) × AreJudged c offers ps ws
reads_first c offers [] first all each = ([], refl)
reads_first c offers (p ∷ ps) first all each =
    let r = first offers p (All-head IsPayload p ps each) in
    let m = reads_chosen c offers (chosen_by r.0) ps all (All-tail IsPayload p ps each) in
    (Payload r.0 ∷ m.0, (r.1, m.1))

pub words_left : (c : Codecs) (offers : List Dialect) (speech : Speech) (bytes : List ℕ) → JudgesFirst c.Negotiates → JudgesLater c.Reads → (ws : List HeardWord) × Left c offers speech bytes ws
words_left c offers First bytes first all =
    let k = cut_of bytes in
    let f = reads_first c offers k.payloads first all k.frames.each in
    (f.0 ++ k.behind, record { payloads = k.payloads; rest = k.rest; frames = k.frames; front = f.0; behind = k.behind; words_are = refl; read = f.1; ends = k.ends })
words_left c offers (Spoken d) bytes first all =
    let k = cut_of bytes in
    let f = reads_later c offers d k.payloads all k.frames.each in
    (f.0 ++ k.behind, record { payloads = k.payloads; rest = k.rest; frames = k.frames; front = f.0; behind = k.behind; words_are = refl; read = f.1; ends = k.ends })
words_left c offers Unchosen bytes first all =
    let k = cut_of bytes in
    (k.behind, record { payloads = k.payloads; rest = k.rest; frames = k.frames; front = []; behind = k.behind; words_are = refl; read = refl; ends = k.ends })
words_left c offers Over bytes first all = ([], refl)

-- All of a stream is left of it at first.

pub all_left : (c : Codecs) (offers : List Dialect) (bytes : List ℕ) (words : List HeardWord) → Words c offers bytes words → Left c offers First bytes words
all_left c offers bytes words w =
    record { payloads = w.payloads; rest = w.rest; frames = w.frames; front = w.front; behind = w.behind; words_are = w.words_are; read = w.judged; ends = w.ends }

pub left_all : (c : Codecs) (offers : List Dialect) (bytes : List ℕ) (words : List HeardWord) → Left c offers First bytes words → Words c offers bytes words
left_all c offers bytes words l =
    record { payloads = l.payloads; rest = l.rest; frames = l.frames; front = l.front; behind = l.behind; words_are = l.words_are; judged = l.read; ends = l.ends }

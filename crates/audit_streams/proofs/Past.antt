-- What each step changes of the values.
use Rattle.std.proofs.Common.{◌≡◌, ℕ, suc, ◌+◌, ◌<◌, ◌∙◌, sym, ap, subst, refl, drop, Bool, true, false, if◌then◌else◌, List, [], ◌∷◌, ◌++◌, length, Option, Some, None, Result, Ok, Err, append_assoc, arith, MatchBool, add-one}
use Rattle.std.specs.Prelude.{All, is_some}
use Rattle.std.proofs.lemmas.List.{append-nil, drop-drop, drop_at, drop_all, length_push}
use Rattle.charge_world.specs.declared.offer.Dialect.{Dialect}
use Rattle.v2gtp_frames.specs.declared.FrameFault.{FrameFault}
use Rattle.v2gtp_frames.specs.Reading.{whole_at, payload_at, behind_front}
use Rattle.post_spec.specs.Codecs.{Codecs, judged_word}
use Rattle.post_spec.specs.Sessions.{arriving, session_behind, session, next_session, with_seen, brought, stream, replies, waits, if_came}
use Rattle.post_spec.specs.Spelled.{AreDetermined}
use Rattle.post_spec.specs.Steps.{Event, Came, Bytes, Gone, Datagram, Plant, Clock, Over as OverHeard, Send, Seen, Heard, Did}
use Rattle.post_spec.specs.Words.{HeardWord, Payload, Fault, Words, next_words}
use Rattle.told_pasts.specs.Reading.{IsNext}
use Rattle.audit_streams.specs.declared.reader.ToldWord.{ToldWord}
use Rattle.audit_streams.specs.declared.streams.Speech.{Speech}
use Rattle.audit_streams.specs.declared.streams.Speech.TheVariants.{First, Spoken, Unchosen, Over}
use Rattle.audit_streams.specs.declared.streams.WordStream.{WordStream}
use Rattle.audit_streams.specs.declared.streams.ToldStream.{ToldStream}
use Rattle.audit_streams.specs.Streams.{Left, AreTaken, IsOpen, SpeaksSo, IsSkipped, IsBare, IsKept, IsLooked, NoneWaits, IsSession, IsIn, AreOf, IsEven, IsAsked, NoneIsNext, IsReady, Brings}
use Rattle.audit_streams.specs.Words.{JudgesFirst, JudgesLater}
use Rattle.audit_streams.proofs.Left.{left_front, left_fault, left_none, words_left}
use Rattle.audit_streams.proofs.Taken.{at_front}

pub true_false : {A : Type 0} (b : Bool) → b ≡ true → b ≡ false → A
true_false true h k = cc
true_false false h k = cc

pub none_of : {A : Type 0} (o : Option A) → is_some o ≡ false → o ≡ None
none_of None e = refl
none_of (Some a) e = cc

pub some_of : {A : Type 0} (o : Option A) → is_some o ≡ true → (a : A) × (o ≡ Some a)
some_of None e = cc
some_of (Some a) e = (a, refl)

pub looked_some : (o : Option ToldWord) (w : WordStream) → is_some o ≡ true → IsLooked o w
looked_some None w e = cc
looked_some (Some kept) w e = tt

looked_bare : (o : Option ToldWord) (w : WordStream) → IsBare w.speech w.unread → IsLooked o w
looked_bare None w b = b
looked_bare (Some kept) w b = tt

-- What is read of the stream.

-- its words, as it stands
pub now_left : (c : Codecs) (offers : List Dialect) (bytes : List ℕ) (taken words : List HeardWord) (speech : Speech) (unread : List ℕ) → AreTaken c offers bytes taken speech unread → Words c offers bytes words → (later : List HeardWord) × Left c offers speech unread later × (words ≡ taken ++ later)
now_left c offers bytes taken words speech unread t w =
    let l = t.left [] words (subst (λ (b : List ℕ). Words c offers b words) (sym (append-nil bytes)) w) in
    (l.0, subst (λ (u : List ℕ). Left c offers speech u l.0) (append-nil unread) l.1, l.2)

pub now_all : (c : Codecs) (offers : List Dialect) (bytes : List ℕ) (taken later : List HeardWord) (speech : Speech) (unread : List ℕ) → AreTaken c offers bytes taken speech unread → Left c offers speech unread later → Words c offers bytes (taken ++ later)
now_all c offers bytes taken later speech unread t l =
    subst (λ (b : List ℕ). Words c offers b (taken ++ later)) (append-nil bytes) (t.all [] later (subst (λ (u : List ℕ). Left c offers speech u later) (sym (append-nil unread)) l))

pub bare_none : (c : Codecs) (offers : List Dialect) (speech : Speech) (unread : List ℕ) (later : List HeardWord) → IsBare speech unread → Left c offers speech unread later → later ≡ []
bare_none c offers First unread later b l = left_none c offers First unread later b l
bare_none c offers (Spoken d) unread later b l = left_none c offers (Spoken d) unread later b l
bare_none c offers Unchosen unread later b l = left_none c offers Unchosen unread later b l
bare_none c offers Over unread later b l = l

abbrev fails : FrameFault → Result (Option ℕ) FrameFault
fails fault = Err fault

pub none_some : (word : HeardWord) (later : List HeardWord) → [] ≡ word ∷ later → ⊥
none_some word later e = cc

-- where no word is left behind some that were taken, none stands at the front
pub bare_left : (c : Codecs) (offers : List Dialect) (speech : Speech) (unread : List ℕ) (taken : List HeardWord) (kept : Option ToldWord) (r : Result (Option ℕ) FrameFault) → AreDetermined c → JudgesLater c.Reads → All (λ byte. byte < 256) unread → SpeaksSo speech taken kept → 0 < length taken → IsSkipped speech unread
    → Left c offers speech unread [] → whole_at unread ≡ r → IsBare speech unread
bare_left c offers First unread taken kept r det all octets s more skipped l e = absurd (let m : length taken ≡ 0 = ap length s in omega (arith, more, m))
bare_left c offers (Spoken d) unread taken kept (Ok None) det all octets s more skipped l e = e
bare_left c offers (Spoken d) unread taken kept (Ok (Some n)) det all octets s more skipped l e =
    let f = at_front unread n octets e in
    let r = all d (payload_at n unread) f.short in
    let k = left_front c offers (Some d) (payload_at n unread) (behind_front unread) [] (judged_word r.0) det (r.0, r.1, refl) f.short (subst (λ (u : List ℕ). Left c offers (Spoken d) u []) f.whole l) in
    absurd (none_some (Payload (judged_word r.0)) k.later k.words_are)
bare_left c offers (Spoken d) unread taken kept (Err fault) det all octets s more skipped l e =
    absurd (none_some (Fault fault) [] (left_fault c offers (Spoken d) unread [] fault (λ x. absurd (cc)) e l))
bare_left c offers Unchosen unread taken kept (Ok None) det all octets s more skipped l e = e
bare_left c offers Unchosen unread taken kept (Ok (Some n)) det all octets s more skipped l e = absurd (skipped (n, e))
bare_left c offers Unchosen unread taken kept (Err fault) det all octets s more skipped l e =
    absurd (none_some (Fault fault) [] (left_fault c offers Unchosen unread [] fault (λ x. absurd (cc)) e l))
bare_left c offers Over unread taken kept r det all octets s more skipped l e = tt

-- the words behind those that have a reply
pub open_words : (count : ℕ) (taken later : List HeardWord) (kept : ToldWord) (o : IsOpen count taken (Some kept)) → drop count (taken ++ later) ≡ o.1 ∷ later
open_words count taken later kept (answered, word, whole, long, same) =
    ap (λ (ws : List HeardWord). drop count ws) (ap (λ (ws : List HeardWord). ws ++ later) whole ∙ append_assoc answered (word ∷ []) later) ∙ drop_at answered (word ∷ later) count long

pub open_long : (count : ℕ) (taken : List HeardWord) (kept : ToldWord) → IsOpen count taken (Some kept) → length taken ≡ count + 1
open_long count taken kept (answered, word, whole, long, same) =
    let l = length_push answered word in
    let m : length taken ≡ length (answered ++ word ∷ []) = ap length whole in
    omega (arith, l, m, long)

pub next_still : (es : List Seen) (words : List HeardWord) → waits es ≡ false → next_words es words ≡ drop (length (replies es)) words
next_still es words e = ap (λ (b : Bool). drop (if b then length (replies es) + 1 else length (replies es)) words) e

pub next_waiting : (es : List Seen) (words : List HeardWord) → waits es ≡ true → next_words es words ≡ drop (length (replies es) + 1) words
next_waiting es words e = ap (λ (b : Bool). drop (if b then length (replies es) + 1 else length (replies es)) words) e

pub next_in : (c : Codecs) (offers : List Dialect) (past es : List Seen) (words rest : List HeardWord) (word : HeardWord) → session past ≡ Some es → Words c offers (stream es) words → next_words es words ≡ word ∷ rest → IsNext c offers past word
next_in c offers past es words rest word s w e = record { es = es; words = words; hearing = record { session_is = s; words_are = w }; rest = rest; next = e }

-- Before a hearing no word stands at the front.

behind_waiting : (c : Codecs) (offers : List Dialect) (past es : List Seen) (w : WordStream) (kept : ToldWord) (later : List HeardWord) → AreDetermined c → JudgesLater c.Reads → All (λ byte. byte < 256) w.unread → session past ≡ Some es → waits es ≡ true
    → (k : IsKept c offers (stream es) (length (replies es)) w) → IsOpen (length (replies es)) k.taken (Some kept) → NoneIsNext c offers past → Left c offers w.speech w.unread later → IsBare w.speech w.unread
behind_waiting c offers past es w kept [] det all octets s waiting k o none l =
    let long = open_long (length (replies es)) k.taken kept o in
    bare_left c offers w.speech w.unread k.taken w.kept (whole_at w.unread) det all octets k.speaks (omega (arith, long)) k.skipped l refl
behind_waiting c offers past es w kept (word ∷ later) det all octets s waiting k o none l =
    let long = open_long (length (replies es)) k.taken kept o in
    absurd (none word (next_in c offers past es (k.taken ++ word ∷ later) later word s (now_all c offers (stream es) k.taken (word ∷ later) w.speech w.unread k.are l)
    (next_waiting es (k.taken ++ word ∷ later) waiting ∙ drop_at k.taken (word ∷ later) (length (replies es) + 1) long)))

bare_by : (c : Codecs) (offers : List Dialect) (past es : List Seen) (w : WordStream) (o : Option ToldWord) (b : Bool) → AreDetermined c → JudgesFirst c.Negotiates → JudgesLater c.Reads → All (λ byte. byte < 256) w.unread → session past ≡ Some es → w.kept ≡ o → waits es ≡ b
    → IsKept c offers (stream es) (length (replies es)) w → IsLooked w.kept w → NoneIsNext c offers past → IsBare w.speech w.unread
bare_by c offers past es w None b det first all octets s e waiting k looked none = subst (λ (x : Option ToldWord). IsLooked x w) e looked
bare_by c offers past es w (Some kept) false det first all octets s e waiting k looked none =
    let o = subst (IsOpen (length (replies es)) k.taken) e k.is in
    let l = words_left c offers w.speech w.unread first all in
    absurd (none o.1 (next_in c offers past es (k.taken ++ l.0) l.0 o.1 s (now_all c offers (stream es) k.taken l.0 w.speech w.unread k.are l.1)
    (next_still es (k.taken ++ l.0) waiting ∙ open_words (length (replies es)) k.taken l.0 kept o)))
bare_by c offers past es w (Some kept) true det first all octets s e waiting k looked none =
    let l = words_left c offers w.speech w.unread first all in
    behind_waiting c offers past es w kept l.0 det all octets s waiting k (subst (IsOpen (length (replies es)) k.taken) e k.is) none l.1

bare_in : (c : Codecs) (offers : List Dialect) (past : List Seen) (v : ToldStream) (lives : Option (List Seen)) → AreDetermined c → JudgesFirst c.Negotiates → JudgesLater c.Reads → All (λ byte. byte < 256) v.words.unread → session past ≡ lives → IsIn c offers lives v → v.lives ≡ true → v.ahead ≡ false → NoneIsNext c offers past
    → IsBare v.words.speech v.words.unread
bare_in c offers past v None det first all octets s is l even none = true_false v.lives l is
bare_in c offers past v (Some es) det first all octets s is l even none =
    let k = subst (λ (b : Bool). MatchBool b (NoneWaits c offers es) (IsKept c offers (stream es) (length (replies es)) v.words × IsLooked v.words.kept v.words)) even is.words_are in
    bare_by c offers past es v.words v.words.kept (waits es) det first all octets s refl refl k.0 k.1 none

pub still_ready : (c : Codecs) (offers : List Dialect) (past : List Seen) (v : ToldStream) → AreDetermined c → JudgesFirst c.Negotiates → JudgesLater c.Reads → All (λ byte. byte < 256) v.words.unread → v.arrived ≡ false → AreOf c offers past v → IsEven v → NoneIsNext c offers past → IsReady c offers past v
still_ready c offers past v det first all octets f h even none =
    let a : arriving past ≡ None = none_of (arriving past) (sym h.arrived_is ∙ f) in
    record {
      session_is = subst (λ (o : Option Seen). IsIn c offers (session_behind o (session past)) v) (sym a) h.session_is;
      even = even;
      bare = λ l. bare_in c offers past v (session past) det first all octets refl h.session_is l (even l) none;
    }

record IsNew (came : Seen) : Type 0 where
  stream_is : stream (came ∷ []) ≡ []
  replies_are : length (replies (came ∷ [])) ≡ 0
  waits_is : waits (came ∷ []) ≡ false

came_new : (past : List Seen) (came : Seen) → arriving past ≡ Some came → IsNew came
came_new [] came a = cc
came_new (Heard at (Came token) ∷ past) came a = let x : Heard at (Came token) ≡ came = cc in subst IsNew x (record { stream_is = refl; replies_are = refl; waits_is = refl })
came_new (Heard at (Bytes bytes) ∷ past) came a = cc
came_new (Heard at Gone ∷ past) came a = cc
came_new (Heard at (Datagram bytes) ∷ past) came a = cc
came_new (Heard at (Plant event) ∷ past) came a = cc
came_new (Heard at Clock ∷ past) came a = cc
came_new (Heard at OverHeard ∷ past) came a = cc
came_new (Did act taken ∷ past) came a = came_new past came a

pub opened_ready : (c : Codecs) (offers : List Dialect) (past : List Seen) (old new : ToldStream) → AreOf c offers past old → old.arrived ≡ true → new.lives ≡ true → new.waits ≡ false → new.ahead ≡ false → IsKept c offers [] 0 new.words → new.words.kept ≡ None → IsBare new.words.speech new.words.unread → IsReady c offers past new
opened_ready c offers past old new h arrived lives waiting even k kept bare =
    let came = some_of (arriving past) (sym h.arrived_is ∙ arrived) in
    let n = came_new past came.0 came.1 in
    let now : IsKept c offers (stream (came.0 ∷ [])) (length (replies (came.0 ∷ []))) new.words =
    subst (λ (b : List ℕ). IsKept c offers b (length (replies (came.0 ∷ []))) new.words) (sym n.stream_is) (subst (λ (i : ℕ). IsKept c offers [] i new.words) (sym n.replies_are) k) in
    let in_new : IsSession c offers (came.0 ∷ []) new = record {
      lives_is = lives;
      waits_is = waiting ∙ sym n.waits_is;
      words_are = subst (λ (b : Bool). MatchBool b (NoneWaits c offers (came.0 ∷ [])) (IsKept c offers (stream (came.0 ∷ [])) (length (replies (came.0 ∷ []))) new.words × IsLooked new.words.kept new.words)) (sym even)
          (now, looked_bare new.words.kept new.words bare);
    } in
    record {
      session_is = subst (λ (o : Option Seen). IsIn c offers (session_behind o (session past)) new) (sym came.1) in_new;
      even = λ l. even;
      bare = λ l. bare;
    }

-- A hearing.

pub brings_none : (c : Codecs) (offers : List Dialect) (v w : ToldStream) → w.arrived ≡ v.arrived → w.lives ≡ v.lives → w.waits ≡ v.waits → w.ahead ≡ v.ahead → w.words ≡ v.words → Brings c offers [] v w
brings_none c offers v w arrived lives waiting ahead words = record {
  arrived_is = arrived;
  lives_is = lives;
  waits_is = waiting;
  ahead_is = ahead;
  words_are = λ l bytes count k bare.
      subst (λ (x : WordStream). IsKept c offers (bytes ++ []) count x × IsLooked x.kept x) (sym words)
      (subst (λ (b : List ℕ). IsKept c offers b count v.words) (sym (append-nil bytes)) k, looked_bare v.words.kept v.words bare);
}

heard_in : (c : Codecs) (offers : List Dialect) (at : ℕ) (event : Event) (piece : List ℕ) (v mid w : ToldStream) (lives : Option (List Seen)) → IsIn c offers lives v → IsEven v → (v.lives ≡ true → IsBare v.words.speech v.words.unread) → brought event ≡ piece
    → mid.lives ≡ v.lives → mid.waits ≡ v.waits → mid.ahead ≡ v.ahead → mid.words ≡ v.words → Brings c offers piece mid w → IsIn c offers (with_seen (Heard at event) lives) w
heard_in c offers at event piece v mid w None is even bare e l q a s b = b.lives_is ∙ l ∙ is
heard_in c offers at event piece v mid w (Some es) is even bare e l q a s b =
    let ahead : v.ahead ≡ false = even is.lives_is in
    let k = subst (λ (x : Bool). MatchBool x (NoneWaits c offers es) (IsKept c offers (stream es) (length (replies es)) v.words × IsLooked v.words.kept v.words)) ahead is.words_are in
    let n = b.words_are (l ∙ is.lives_is) (stream es) (length (replies es)) (subst (λ (x : WordStream). IsKept c offers (stream es) (length (replies es)) x) (sym s) k.0)
    (subst (λ (x : WordStream). IsBare x.speech x.unread) (sym s) (bare is.lives_is)) in
    record {
      lives_is = b.lives_is ∙ l ∙ is.lives_is;
      waits_is = b.waits_is ∙ q ∙ is.waits_is;
      words_are = subst (λ (x : Bool). MatchBool x (NoneWaits c offers (Heard at event ∷ es)) (IsKept c offers (stream es ++ brought event) (length (replies es)) w.words × IsLooked w.words.kept w.words)) (sym (b.ahead_is ∙ a ∙ ahead))
          (subst (λ (p : List ℕ). IsKept c offers (stream es ++ p) (length (replies es)) w.words) (sym e) n.0, n.1);
    }

pub heard_of : (c : Codecs) (offers : List Dialect) (past : List Seen) (at : ℕ) (event : Event) (piece : List ℕ) (v mid w : ToldStream) → IsReady c offers past v → mid.arrived ≡ is_some (if_came at event) → brought event ≡ piece → mid.lives ≡ v.lives → mid.waits ≡ v.waits → mid.ahead ≡ v.ahead → mid.words ≡ v.words
    → Brings c offers piece mid w → AreOf c offers (Heard at event ∷ past) w × IsEven w
heard_of c offers past at event piece v mid w r came e l q a s b = (
  record {
    arrived_is = b.arrived_is ∙ came;
    session_is = heard_in c offers at event piece v mid w (next_session past) r.session_is r.even r.bare e l q a s b;
  },
  λ h. b.ahead_is ∙ a ∙ r.even (sym l ∙ sym b.lives_is ∙ h),
)

-- Bytes are sent.

more_none : (count : ℕ) (words : List HeardWord) → drop count words ≡ [] → drop (suc count) words ≡ []
more_none count words e = ap (λ (n : ℕ). drop n words) (sym (add-one count)) ∙ sym (drop-drop 1 count words) ∙ ap (λ (ws : List HeardWord). drop 1 ws) e

-- where all that was asked is answered, and nothing is there
pub none_open : (c : Codecs) (offers : List Dialect) (bytes : List ℕ) (count : ℕ) (words : List HeardWord) (w : WordStream) → w.kept ≡ None → IsKept c offers bytes count w → IsLooked w.kept w → Words c offers bytes words → drop count words ≡ []
none_open c offers bytes count words w e k looked are =
    let l = now_left c offers bytes k.taken words w.speech w.unread k.are are in
    let none = bare_none c offers w.speech w.unread l.0 (subst (λ (x : Option ToldWord). IsLooked x w) e looked) l.1 in
    let long : length k.taken ≡ count = subst (IsOpen count k.taken) e k.is in
    let same : words ≡ k.taken = l.2 ∙ ap (λ (ws : List HeardWord). k.taken ++ ws) none ∙ append-nil k.taken in
    ap (λ (ws : List HeardWord). drop count ws) same ∙ drop_all count k.taken (omega (arith, long))

pub none_waits : (c : Codecs) (offers : List Dialect) (es : List Seen) (w : WordStream) (ahead : Bool) → w.kept ≡ None → MatchBool ahead (NoneWaits c offers es) (IsKept c offers (stream es) (length (replies es)) w × IsLooked w.kept w) → NoneWaits c offers es
none_waits c offers es w true e h = h
none_waits c offers es w false e h = λ words are. none_open c offers (stream es) (length (replies es)) words w e h.0 h.1 are

sent_by : (c : Codecs) (offers : List Dialect) (es : List Seen) (bytes : List ℕ) (taken : Bool) (old new : WordStream) (ahead : Bool) → MatchBool ahead (NoneWaits c offers es) (IsKept c offers (stream es) (length (replies es)) old × IsLooked old.kept old)
    → ((b : List ℕ) (count : ℕ) → IsKept c offers b count old → IsKept c offers b (suc count) new × IsLooked new.kept new)
    → MatchBool ahead (NoneWaits c offers (Did (Send bytes) taken ∷ es)) (IsKept c offers (stream es) (suc (length (replies es))) new × IsLooked new.kept new)
sent_by c offers es bytes taken old new true h f = λ words are. more_none (length (replies es)) words (h words are)
sent_by c offers es bytes taken old new false h f = f (stream es) (length (replies es)) h.0

answered_in : (c : Codecs) (offers : List Dialect) (bytes : List ℕ) (taken : Bool) (v w : ToldStream) (lives : Option (List Seen)) → IsIn c offers lives v → w.lives ≡ v.lives → w.waits ≡ false → w.ahead ≡ v.ahead
    → ((b : List ℕ) (count : ℕ) → IsKept c offers b count v.words → IsKept c offers b (suc count) w.words × IsLooked w.words.kept w.words) → IsIn c offers (with_seen (Did (Send bytes) taken) lives) w
answered_in c offers bytes taken v w None is l q a f = l ∙ is
answered_in c offers bytes taken v w (Some es) is l q a f = record {
  lives_is = l ∙ is.lives_is;
  waits_is = q;
  words_are = subst (λ (x : Bool). MatchBool x (NoneWaits c offers (Did (Send bytes) taken ∷ es)) (IsKept c offers (stream es) (suc (length (replies es))) w.words × IsLooked w.words.kept w.words)) (sym a)
      (sent_by c offers es bytes taken v.words w.words v.ahead is.words_are f);
}

answered_of : (c : Codecs) (offers : List Dialect) (past : List Seen) (bytes : List ℕ) (taken : Bool) (v w : ToldStream) → AreOf c offers past v → w.arrived ≡ v.arrived → w.lives ≡ v.lives → w.waits ≡ false → w.ahead ≡ v.ahead
    → ((b : List ℕ) (count : ℕ) → IsKept c offers b count v.words → IsKept c offers b (suc count) w.words × IsLooked w.words.kept w.words) → AreOf c offers (Did (Send bytes) taken ∷ past) w
answered_of c offers past bytes taken v w h arrived l q a f =
    record { arrived_is = arrived ∙ h.arrived_is; session_is = answered_in c offers bytes taken v w (session past) h.session_is l q a f }

-- where the dialects on offer were lent
pub answered_with : (c : Codecs) (offers lent : List Dialect) (past : List Seen) (bytes : List ℕ) (taken : Bool) (v w : ToldStream) → lent ≡ offers → AreOf c offers past v → w.arrived ≡ v.arrived → w.lives ≡ v.lives → w.waits ≡ false → w.ahead ≡ v.ahead
    → ((b : List ℕ) (count : ℕ) → IsKept c lent b count v.words → IsKept c lent b (suc count) w.words × IsLooked w.words.kept w.words) → AreOf c offers (Did (Send bytes) taken ∷ past) w
answered_with c offers lent past bytes taken v w e h arrived l q a f =
    answered_of c offers past bytes taken v w h arrived l q a
    (subst (λ (o : List Dialect). (b : List ℕ) (count : ℕ) → IsKept c o b count v.words → IsKept c o b (suc count) w.words × IsLooked w.words.kept w.words) e f)

unasked_in : (c : Codecs) (offers : List Dialect) (bytes : List ℕ) (taken : Bool) (v w : ToldStream) (lives : Option (List Seen)) → IsIn c offers lives v → v.words.kept ≡ None → w.lives ≡ v.lives → w.waits ≡ false → w.ahead ≡ true → IsIn c offers (with_seen (Did (Send bytes) taken) lives) w
unasked_in c offers bytes taken v w None is e l q a = l ∙ is
unasked_in c offers bytes taken v w (Some es) is e l q a = record {
  lives_is = l ∙ is.lives_is;
  waits_is = q;
  words_are = subst (λ (x : Bool). MatchBool x (NoneWaits c offers (Did (Send bytes) taken ∷ es)) (IsKept c offers (stream es) (suc (length (replies es))) w.words × IsLooked w.words.kept w.words)) (sym a)
      (λ words are. more_none (length (replies es)) words (none_waits c offers es v.words v.ahead e is.words_are words are));
}

pub unasked_of : (c : Codecs) (offers : List Dialect) (past : List Seen) (bytes : List ℕ) (taken : Bool) (v w : ToldStream) → AreOf c offers past v → v.words.kept ≡ None → w.arrived ≡ v.arrived → w.lives ≡ v.lives → w.waits ≡ false → w.ahead ≡ true → AreOf c offers (Did (Send bytes) taken ∷ past) w
unasked_of c offers past bytes taken v w h e arrived l q a =
    record { arrived_is = arrived ∙ h.arrived_is; session_is = unasked_in c offers bytes taken v w (session past) h.session_is e l q a }

-- No word is without a reply where none is kept.

none_asked : (c : Codecs) (offers : List Dialect) (past : List Seen) (v : ToldStream) (lives : Option (List Seen)) → session past ≡ lives → IsIn c offers lives v → v.words.kept ≡ None → IsAsked c offers past → ⊥
none_asked c offers past v None s is e (words, word, u) = let x : None ≡ Some u.es = sym s ∙ u.hearing.session_is in cc
none_asked c offers past v (Some es) s is e (words, word, u) =
    let x : Some es ≡ Some u.es = sym s ∙ u.hearing.session_is in
    let y : u.es ≡ es = cc in
    let none = none_waits c offers es v.words v.ahead e is.words_are words (subst (λ (zs : List Seen). Words c offers (stream zs) words) y u.hearing.words_are) in
    none_some word u.rest (sym none ∙ ap (λ (zs : List Seen). drop (length (replies zs)) words) (sym y) ∙ u.first)

pub kept_asked : (c : Codecs) (offers : List Dialect) (past : List Seen) (v : ToldStream) → AreOf c offers past v → v.words.kept ≡ None → IsAsked c offers past → ⊥
kept_asked c offers past v h e asked = none_asked c offers past v (session past) refl h.session_is e asked

-- What the values tell of the words of a past.
use Rattle.std.proofs.Common.{◌≡◌, ℕ, ◌+◌, ◌<◌, ◌∙◌, sym, ap, subst, refl, drop, Bool, true, false, if◌then◌else◌, List, [], ◌∷◌, ◌++◌, length, Option, Some, None, Result, Ok, Err, arith, MatchBool}
use Rattle.std.specs.Prelude.{All, not, ◌&&◌}
use Rattle.std.proofs.lemmas.List.{drop-drop, drop_at}
use Rattle.charge_world.specs.declared.offer.Dialect.{Dialect}
use Rattle.v2gtp_frames.specs.declared.FrameFault.{FrameFault}
use Rattle.v2gtp_frames.specs.Reading.{whole_at, payload_at, behind_front}
use Rattle.post_spec.specs.Codecs.{Judged, Codecs, Judges, judged_word}
use Rattle.post_spec.specs.Sessions.{session, stream, replies, waits}
use Rattle.post_spec.specs.Spelled.{AreDetermined}
use Rattle.post_spec.specs.Steps.{Seen}
use Rattle.post_spec.specs.Words.{HeardWord, Payload, Fault, Words}
use Rattle.told_pasts.specs.Reading.{IsUnanswered, IsNext, spoken_in}
use Rattle.audit_streams.specs.declared.reader.ToldWord.{ToldWord}
use Rattle.audit_streams.specs.declared.reader.ToldWord.TheVariants as told
use Rattle.audit_streams.specs.declared.streams.NextWord.{NextWord}
use Rattle.audit_streams.specs.declared.streams.NextWord.TheVariants.{Nothing, Kept, BadFrame, OtherPayload}
use Rattle.audit_streams.specs.declared.streams.Speech.{Speech}
use Rattle.audit_streams.specs.declared.streams.Speech.TheVariants.{First, Spoken, Unchosen, Over}
use Rattle.audit_streams.specs.declared.streams.WordStream.{WordStream}
use Rattle.audit_streams.specs.declared.streams.ToldStream.{ToldStream}
use Rattle.audit_streams.specs.Streams.{Left, IsOpen, SpeaksSo, IsSkipped, IsKept, IsLooked, NoneWaits, IsSession, IsIn, AreOf, IsEven, IsAsked, NoneIsNext, NextIs, IsFront, IsBehindWord, TellsWord, kept_in, IsTold, TellsFirst, TellsSpoken, IsPayloadWord, IsKeptNext, TellsNext, IsBehind, spoken_by}
use Rattle.audit_streams.specs.Words.{IsWord, JudgesFirst, JudgesLater}
use Rattle.audit_streams.proofs.Left.{left_front, front_left, left_fault, fault_left, words_left}
use Rattle.audit_streams.proofs.Past.{true_false, now_left, now_all, bare_none, open_words, open_long, next_still, next_waiting, next_in, kept_asked, none_waits, none_some}
use Rattle.audit_streams.proofs.Taken.{at_front}

same_session : (past es zs : List Seen) → session past ≡ Some es → session past ≡ Some zs → zs ≡ es
same_session past es zs s t = let x : Some zs ≡ Some es = sym t ∙ s in cc

heads : (a b : HeardWord) (xs ys : List HeardWord) → a ∷ xs ≡ b ∷ ys → b ≡ a
heads a b xs ys e = cc

-- The first word without a reply.

unanswered_is : (c : Codecs) (offers : List Dialect) (past es : List Seen) (w : WordStream) (kept : ToldWord) (words : List HeardWord) (word : HeardWord) → session past ≡ Some es → (k : IsKept c offers (stream es) (length (replies es)) w) → (o : IsOpen (length (replies es)) k.taken (Some kept)) → IsUnanswered c offers past words word → word ≡ o.1
unanswered_is c offers past es w kept words word s k o u =
    let same = same_session past es u.es s u.hearing.session_is in
    let l = now_left c offers (stream es) k.taken words w.speech w.unread k.are (subst (λ (zs : List Seen). Words c offers (stream zs) words) same u.hearing.words_are) in
    let first : drop (length (replies es)) words ≡ word ∷ u.rest = ap (λ (zs : List Seen). drop (length (replies zs)) words) (sym same) ∙ u.first in
    heads o.1 word l.0 u.rest (sym (ap (λ (ws : List HeardWord). drop (length (replies es)) ws) l.2 ∙ open_words (length (replies es)) k.taken l.0 kept o) ∙ first)

told_first : (c : Codecs) (offers : List Dialect) (past es : List Seen) (w : WordStream) (kept : ToldWord) → JudgesFirst c.Negotiates → JudgesLater c.Reads → session past ≡ Some es → w.kept ≡ Some kept → IsKept c offers (stream es) (length (replies es)) w → IsTold c offers past kept
told_first c offers past es w kept first all s e k =
    let o = subst (IsOpen (length (replies es)) k.taken) e k.is in
    let l = words_left c offers w.speech w.unread first all in
    record {
      words = k.taken ++ l.0;
      word = o.1;
      is = record {
        es = es;
        hearing = record { session_is = s; words_are = now_all c offers (stream es) k.taken l.0 w.speech w.unread k.are l.1 };
        rest = l.0;
        first = open_words (length (replies es)) k.taken l.0 kept o;
      };
      kept_is = o.4;
      only = λ others other u. unanswered_is c offers past es w kept others other s k o u;
    }

told_by : (c : Codecs) (offers : List Dialect) (past es : List Seen) (v : ToldStream) (kept : ToldWord) (ahead : Bool) → JudgesFirst c.Negotiates → JudgesLater c.Reads → session past ≡ Some es → v.ahead ≡ ahead → ahead ≡ false → v.words.kept ≡ Some kept → IsSession c offers es v → IsKept c offers (stream es) (length (replies es)) v.words
told_by c offers past es v kept ahead first all s a even e is =
    (subst (λ (x : Bool). MatchBool x (NoneWaits c offers es) (IsKept c offers (stream es) (length (replies es)) v.words × IsLooked v.words.kept v.words)) (a ∙ even) is.words_are).0

none_lives : (c : Codecs) (offers : List Dialect) (past : List Seen) → session past ≡ None → IsAsked c offers past → ⊥
none_lives c offers past s (words, word, u) = let x : None ≡ Some u.es = sym s ∙ u.hearing.session_is in cc

none_ahead : (c : Codecs) (offers : List Dialect) (past es : List Seen) → session past ≡ Some es → NoneWaits c offers es → IsAsked c offers past → ⊥
none_ahead c offers past es s none (words, word, u) =
    let same = same_session past es u.es s u.hearing.session_is in
    let n = none words (subst (λ (zs : List Seen). Words c offers (stream zs) words) same u.hearing.words_are) in
    none_some word u.rest (sym n ∙ ap (λ (zs : List Seen). drop (length (replies zs)) words) (sym same) ∙ u.first)

first_kept : (c : Codecs) (offers : List Dialect) (past es : List Seen) (w : WordStream) (o : Option ToldWord) → JudgesFirst c.Negotiates → JudgesLater c.Reads → session past ≡ Some es → w.kept ≡ o → IsKept c offers (stream es) (length (replies es)) w × IsLooked w.kept w → TellsFirst c offers past o
first_kept c offers past es w None first all s e h = none_ahead c offers past es s (none_waits c offers es w false e h)
first_kept c offers past es w (Some kept) first all s e h = told_first c offers past es w kept first all s e h.0

first_in : (c : Codecs) (offers : List Dialect) (past : List Seen) (v : ToldStream) (lives : Option (List Seen)) (ahead : Bool) → JudgesFirst c.Negotiates → JudgesLater c.Reads → session past ≡ lives → v.ahead ≡ ahead → IsIn c offers lives v → TellsFirst c offers past (if v.lives && not v.ahead then v.words.kept else None)
first_in c offers past v None ahead first all s a is = rw is (none_lives c offers past s)
first_in c offers past v (Some es) true first all s a is =
    let none = subst (λ (x : Bool). MatchBool x (NoneWaits c offers es) (IsKept c offers (stream es) (length (replies es)) v.words × IsLooked v.words.kept v.words)) a is.words_are in
    rw (is.lives_is, a) (none_ahead c offers past es s none)
first_in c offers past v (Some es) false first all s a is =
    let k = subst (λ (x : Bool). MatchBool x (NoneWaits c offers es) (IsKept c offers (stream es) (length (replies es)) v.words × IsLooked v.words.kept v.words)) a is.words_are in
    rw (is.lives_is, a) (first_kept c offers past es v.words v.words.kept first all s refl k)

pub first_of : (c : Codecs) (offers : List Dialect) (past : List Seen) (v : ToldStream) → JudgesFirst c.Negotiates → JudgesLater c.Reads → AreOf c offers past v → TellsFirst c offers past (kept_in v)
first_of c offers past v first all h = first_in c offers past v (session past) v.ahead first all refl refl h.session_is

-- What is kept where a word has no reply.

kept_parts : (l a : Bool) (o : Option ToldWord) (own : ToldWord) → (if l && not a then o else None) ≡ Some own → (l ≡ true) × (a ≡ false) × (o ≡ Some own)
kept_parts true true o own e = cc
kept_parts true false o own e = (refl, refl, e)
kept_parts false a o own e = cc

record Stands (c : Codecs) (offers : List Dialect) (past : List Seen) (v : ToldStream) (own : ToldWord) : Type 0 where
  es : List Seen
  session_is : session past ≡ Some es
  waits_is : v.waits ≡ waits es
  kept : IsKept c offers (stream es) (length (replies es)) v.words
  own_is : v.words.kept ≡ Some own
  is : IsOpen (length (replies es)) kept.taken (Some own)

stands_in : (c : Codecs) (offers : List Dialect) (past : List Seen) (v : ToldStream) (own : ToldWord) (lives : Option (List Seen)) → session past ≡ lives → IsIn c offers lives v → v.lives ≡ true → v.ahead ≡ false → v.words.kept ≡ Some own → Stands c offers past v own
stands_in c offers past v own None s is l a e = true_false v.lives l is
stands_in c offers past v own (Some es) s is l a e =
    let k = (subst (λ (x : Bool). MatchBool x (NoneWaits c offers es) (IsKept c offers (stream es) (length (replies es)) v.words × IsLooked v.words.kept v.words)) a is.words_are).0 in
    record { es = es; session_is = s; waits_is = is.waits_is; kept = k; own_is = e; is = subst (IsOpen (length (replies es)) k.taken) e k.is }

stands : (c : Codecs) (offers : List Dialect) (past : List Seen) (v : ToldStream) (own : ToldWord) → AreOf c offers past v → kept_in v ≡ Some own → Stands c offers past v own
stands c offers past v own h e =
    let p = kept_parts v.lives v.ahead v.words.kept own e in
    stands_in c offers past v own (session past) refl h.session_is p.0 p.1 p.2

-- The dialect.

spoken_long : (taken later : List HeardWord) → 0 < length taken → spoken_in (taken ++ later) ≡ spoken_in taken
spoken_long [] later h = absurd (let l : length {A = HeardWord} [] ≡ 0 = refl in omega (arith, h, l))
spoken_long (Payload judged ∷ ws) later h = refl
spoken_long (Fault fault ∷ ws) later h = refl

faulty : (own : ToldWord) (word : HeardWord) (judged : Judged) → SpeaksSo Over [] (Some own) → IsWord own word → word ≡ Payload judged → ⊥
faulty (told.Negotiated chosen) word judged s is e = s
faulty (told.Asked request) word judged s is e = s
faulty told.WrongSide word judged s is e = s
faulty told.Refused word judged s is e = s
faulty (told.BadFrame fault) word judged s is e = let x : Fault fault ≡ Payload judged = sym is ∙ e in absurd (cc)

speaks_by : (speech : Speech) (taken later : List HeardWord) (own : ToldWord) (word : HeardWord) (judged : Judged) → 0 < length taken → SpeaksSo speech taken (Some own) → IsWord own word → word ≡ Payload judged → spoken_in (taken ++ later) ≡ spoken_by speech
speaks_by First taken later own word judged m s is e = absurd (let l : length taken ≡ 0 = ap length s in omega (arith, m, l))
speaks_by (Spoken d) taken later own word judged m s is e = spoken_long taken later m ∙ s
speaks_by Unchosen taken later own word judged m s is e = spoken_long taken later m ∙ s.1
speaks_by Over taken later own word judged m s is e = absurd (faulty own word judged s is e)

spoken_stands : (c : Codecs) (offers : List Dialect) (past : List Seen) (v : ToldStream) (own : ToldWord) (words : List HeardWord) (judged : Judged) → Stands c offers past v own → IsUnanswered c offers past words (Payload judged) → spoken_in words ≡ spoken_by v.words.speech
spoken_stands c offers past v own words judged s u =
    let k = s.kept in
    let same = same_session past s.es u.es s.session_is u.hearing.session_is in
    let l = now_left c offers (stream s.es) k.taken words v.words.speech v.words.unread k.are (subst (λ (zs : List Seen). Words c offers (stream zs) words) same u.hearing.words_are) in
    let long = open_long (length (replies s.es)) k.taken own s.is in
    ap spoken_in l.2
    ∙ speaks_by v.words.speech k.taken l.0 own s.is.1 judged (omega (arith, long)) (subst (λ (o : Option ToldWord). SpeaksSo v.words.speech k.taken o) s.own_is k.speaks) s.is.4
    (sym (unanswered_is c offers past s.es v.words own words (Payload judged) s.session_is k s.is u))

lives_of : (c : Codecs) (offers : List Dialect) (past : List Seen) (v : ToldStream) (lives : Option (List Seen)) → session past ≡ lives → IsIn c offers lives v → (es : List Seen) → session past ≡ Some es → v.lives ≡ true
lives_of c offers past v None s is es t = let x : None ≡ Some es = sym s ∙ t in cc
lives_of c offers past v (Some zs) s is es t = is.lives_is

spoken_kept : (c : Codecs) (offers : List Dialect) (past : List Seen) (v : ToldStream) (o : Option ToldWord) (words : List HeardWord) (judged : Judged) → AreOf c offers past v → IsEven v → v.words.kept ≡ o → IsUnanswered c offers past words (Payload judged) → spoken_in words ≡ spoken_by v.words.speech
spoken_kept c offers past v None words judged h even e u = absurd (kept_asked c offers past v h e (words, Payload judged, u))
spoken_kept c offers past v (Some own) words judged h even e u =
    let l = lives_of c offers past v (session past) refl h.session_is u.es u.hearing.session_is in
    spoken_stands c offers past v own words judged (stands_in c offers past v own (session past) refl h.session_is l (even l) e) u

pub spoken_of : (c : Codecs) (offers : List Dialect) (past : List Seen) (v : ToldStream) → AreOf c offers past v → IsEven v → TellsSpoken c offers past (spoken_by v.words.speech)
spoken_of c offers past v h even words judged u = spoken_kept c offers past v v.words.kept words judged h even refl u

-- The next word.

split_next : (count : ℕ) (words left : List HeardWord) (word : HeardWord) (rest : List HeardWord) → drop count words ≡ left → drop (count + 1) words ≡ word ∷ rest → (first : HeardWord) × (later : List HeardWord) × (left ≡ first ∷ later)
split_next count words [] word rest e f = absurd (none_some word rest (sym (ap (λ (ws : List HeardWord). drop 1 ws) e) ∙ drop-drop 1 count words ∙ f))
split_next count words (first ∷ later) word rest e f = (first, later, refl)

asked_by : (c : Codecs) (offers : List Dialect) (past : List Seen) (word : HeardWord) (n : IsNext c offers past word) (b : Bool) → waits n.es ≡ b → IsAsked c offers past
asked_by c offers past word n false e = (n.words, word, record { es = n.es; hearing = n.hearing; rest = n.rest; first = sym (next_still n.es n.words e) ∙ n.next })
asked_by c offers past word n true e =
    let s = split_next (length (replies n.es)) n.words (drop (length (replies n.es)) n.words) word n.rest refl (sym (next_waiting n.es n.words e) ∙ n.next) in
    (n.words, s.0, record { es = n.es; hearing = n.hearing; rest = s.1; first = s.2 })

pub none_next : (c : Codecs) (offers : List Dialect) (past : List Seen) (v : ToldStream) → JudgesFirst c.Negotiates → JudgesLater c.Reads → AreOf c offers past v → kept_in v ≡ None → NoneIsNext c offers past
none_next c offers past v first all h e = λ word n. subst (TellsFirst c offers past) e (first_of c offers past v first all h) (asked_by c offers past word n (waits n.es) refl)

-- where no reply waits it is the first without one
next_is : (c : Codecs) (offers : List Dialect) (past : List Seen) (v : ToldStream) (own : ToldWord) (other : HeardWord) (s : Stands c offers past v own) → v.waits ≡ false → (n : IsNext c offers past other) → (other ≡ s.is.1) × (waits n.es ≡ false)
next_is c offers past v own other s still n =
    let same = same_session past s.es n.es s.session_is n.hearing.session_is in
    let w : waits n.es ≡ false = ap waits same ∙ sym s.waits_is ∙ still in (
      unanswered_is c offers past s.es v.words own n.words other s.session_is s.kept s.is (record { es = n.es; hearing = n.hearing; rest = n.rest; first = sym (next_still n.es n.words w) ∙ n.next }),
      w,
    )

pub kept_next : (c : Codecs) (offers : List Dialect) (past : List Seen) (v : ToldStream) (own : ToldWord) → JudgesFirst c.Negotiates → JudgesLater c.Reads → AreOf c offers past v → kept_in v ≡ Some own → v.waits ≡ false → IsKeptNext c offers past (kept_in v)
kept_next c offers past v own first all h e still =
    let s = stands c offers past v own h e in
    let k = s.kept in
    let l = words_left c offers v.words.speech v.words.unread first all in
    record {
      own = own;
      own_is = e;
      word = s.is.1;
      word_is = s.is.4;
      next = record {
        word = s.is.1;
        next = next_in c offers past s.es (k.taken ++ l.0) l.0 s.is.1 s.session_is (now_all c offers (stream s.es) k.taken l.0 v.words.speech v.words.unread k.are l.1)
            (next_still s.es (k.taken ++ l.0) (sym s.waits_is ∙ still) ∙ open_words (length (replies s.es)) k.taken l.0 own s.is);
        all = λ other n. next_is c offers past v own other s still n;
      };
    }

-- where a reply waits it is the one behind
record Behind (c : Codecs) (offers : List Dialect) (past : List Seen) (v : ToldStream) (other : HeardWord) (n : IsNext c offers past other) : Type 0 where
  later : List HeardWord
  left : Left c offers v.words.speech v.words.unread later
  later_is : later ≡ other ∷ n.rest
  waits_is : waits n.es ≡ true

next_behind : (c : Codecs) (offers : List Dialect) (past : List Seen) (v : ToldStream) (own : ToldWord) (other : HeardWord) → Stands c offers past v own → v.waits ≡ true → (n : IsNext c offers past other) → Behind c offers past v other n
next_behind c offers past v own other s waiting n =
    let k = s.kept in
    let same = same_session past s.es n.es s.session_is n.hearing.session_is in
    let w : waits n.es ≡ true = ap waits same ∙ sym s.waits_is ∙ waiting in
    let l = now_left c offers (stream s.es) k.taken n.words v.words.speech v.words.unread k.are (subst (λ (zs : List Seen). Words c offers (stream zs) n.words) same n.hearing.words_are) in
    let long = open_long (length (replies s.es)) k.taken own s.is in
    record {
      later = l.0;
      left = l.1;
      later_is = sym (drop_at k.taken l.0 (length (replies s.es) + 1) long)
          ∙ ap (λ (ws : List HeardWord). drop (length (replies s.es) + 1) ws) (sym l.2)
          ∙ ap (λ (zs : List Seen). drop (length (replies zs) + 1) n.words) (sym same)
          ∙ sym (next_waiting n.es n.words w)
          ∙ n.next;
      waits_is = w;
    }

behind_next : (c : Codecs) (offers : List Dialect) (past : List Seen) (v : ToldStream) (own : ToldWord) (word : HeardWord) (later : List HeardWord) → Stands c offers past v own → v.waits ≡ true → Left c offers v.words.speech v.words.unread (word ∷ later) → IsNext c offers past word
behind_next c offers past v own word later s waiting l =
    let k = s.kept in
    let long = open_long (length (replies s.es)) k.taken own s.is in
    next_in c offers past s.es (k.taken ++ word ∷ later) later word s.session_is (now_all c offers (stream s.es) k.taken (word ∷ later) v.words.speech v.words.unread k.are l)
    (next_waiting s.es (k.taken ++ word ∷ later) (sym s.waits_is ∙ waiting) ∙ drop_at k.taken (word ∷ later) (length (replies s.es) + 1) long)

-- a payload that is left
record LeftPayload (c : Codecs) (offers : List Dialect) (speech : Speech) (unread : List ℕ) : Type 0 where
  judged : Judged
  later : List HeardWord
  left : Left c offers speech unread (Payload judged ∷ later)
  only : (other : HeardWord) (rest : List HeardWord) → Left c offers speech unread (other ∷ rest) → IsPayloadWord other

payload_word : (other word : HeardWord) (judged : Judged) → word ≡ Payload judged → other ≡ word → IsPayloadWord other
payload_word other word judged e f = subst IsPayloadWord (sym (f ∙ e)) tt

left_payload : (c : Codecs) (offers : List Dialect) (speech : Speech) (unread : List ℕ) (taken : List HeardWord) (kept : Option ToldWord) (n : ℕ) → AreDetermined c → JudgesFirst c.Negotiates → JudgesLater c.Reads → All (λ byte. byte < 256) unread → SpeaksSo speech taken kept → 0 < length taken → IsSkipped speech unread
    → (speech ≡ Over → ⊥) → whole_at unread ≡ Ok (Some n) → LeftPayload c offers speech unread
left_payload c offers First unread taken kept n det first all octets s more skipped goes e = absurd (let m : length taken ≡ 0 = ap length s in omega (arith, more, m))
left_payload c offers (Spoken d) unread taken kept n det first all octets s more skipped goes e =
    let f = at_front unread n octets e in
    let r = all d (payload_at n unread) f.short in
    let j : Judged = judged_word r.0 in
    let l = words_left c offers (Spoken d) (behind_front unread) first all in
    record {
      judged = judged_word r.0;
      later = l.0;
      left = subst (λ (u : List ℕ). Left c offers (Spoken d) u (Payload (judged_word r.0) ∷ l.0)) (sym f.whole) (front_left c offers (Some d) (payload_at n unread) (behind_front unread) l.0 (judged_word r.0) (r.0, r.1, refl) f.short l.1);
      only = λ other rest x.
          let k = left_front c offers (Some d) (payload_at n unread) (behind_front unread) (other ∷ rest) (judged_word r.0) det (r.0, r.1, refl) f.short (subst (λ (u : List ℕ). Left c offers (Spoken d) u (other ∷ rest)) f.whole x) in
          payload_word other (Payload (judged_word r.0)) (judged_word r.0) refl (sym (heads other (Payload (judged_word r.0)) rest k.later k.words_are));
    }
left_payload c offers Unchosen unread taken kept n det first all octets s more skipped goes e = absurd (skipped (n, e))
left_payload c offers Over unread taken kept n det first all octets s more skipped goes e = absurd (goes refl)

next_by : (c : Codecs) (offers : List Dialect) (past : List Seen) (v : ToldStream) (own : ToldWord) (r : NextWord) → AreDetermined c → JudgesFirst c.Negotiates → JudgesLater c.Reads → All (λ byte. byte < 256) v.words.unread → Stands c offers past v own → v.waits ≡ true → IsBehind v.words r → TellsNext c offers past (kept_in v) r
next_by c offers past v own Nothing det first all octets s waiting is = λ word n.
    let b = next_behind c offers past v own word s waiting n in
    none_some word n.rest (sym (bare_none c offers v.words.speech v.words.unread b.later is b.left) ∙ b.later_is)
next_by c offers past v own Kept det first all octets s waiting is = absurd is
next_by c offers past v own BadFrame det first all octets s waiting (goes, fault, w) = (
  fault,
  record {
    word = Fault fault;
    next = behind_next c offers past v own (Fault fault) [] s waiting (fault_left c offers v.words.speech v.words.unread fault goes w);
    all = λ other n.
        let b = next_behind c offers past v own other s waiting n in
        (heads (Fault fault) other [] n.rest (sym (left_fault c offers v.words.speech v.words.unread b.later fault goes w b.left) ∙ b.later_is), b.waits_is);
  },
)
next_by c offers past v own OtherPayload det first all octets s waiting is =
    let k = s.kept in
    let long = open_long (length (replies s.es)) k.taken own s.is in
    let p = left_payload c offers v.words.speech v.words.unread k.taken v.words.kept is.1.0 det first all octets k.speaks (omega (arith, long)) k.skipped is.0 is.1.1 in
    record {
      word = Payload p.judged;
      next = behind_next c offers past v own (Payload p.judged) p.later s waiting p.left;
      all = λ other m.
          let b = next_behind c offers past v own other s waiting m in
          (p.only other m.rest (subst (λ (ws : List HeardWord). Left c offers v.words.speech v.words.unread ws) b.later_is b.left), b.waits_is);
    }

pub next_of : (c : Codecs) (offers : List Dialect) (past : List Seen) (v : ToldStream) (own : ToldWord) (r : NextWord) → AreDetermined c → JudgesFirst c.Negotiates → JudgesLater c.Reads → All (λ byte. byte < 256) v.words.unread → AreOf c offers past v → kept_in v ≡ Some own → v.waits ≡ true → IsBehind v.words r → TellsNext c offers past (kept_in v) r
next_of c offers past v own r det first all octets h e waiting is = next_by c offers past v own r det first all octets (stands c offers past v own h e) waiting is

-- The next word itself.

some_same : (a b : ToldWord) → Some a ≡ Some b → a ≡ b
some_same a b e = cc

pub kept_word : (c : Codecs) (offers : List Dialect) (past : List Seen) (v : ToldStream) (own : ToldWord) → JudgesFirst c.Negotiates → JudgesLater c.Reads → AreOf c offers past v → kept_in v ≡ Some own → v.waits ≡ false → NextIs c offers past own
kept_word c offers past v own first all h e still =
    let k = kept_next c offers past v own first all h e still in
    let same : k.own ≡ own = some_same k.own own (sym k.own_is ∙ e) in
    record {
      word = k.word;
      kept_is = subst (λ (x : ToldWord). IsWord x k.word) same k.word_is;
      next = rw (sym (k.next.all k.next.word k.next.next).0) k.next.next;
      only = λ other n. (k.next.all other n).0;
    }

-- a payload that is left and judged so
record LeftJudged (c : Codecs) (offers : List Dialect) (speech : Speech) (unread : List ℕ) (judged : Judged) : Type 0 where
  later : List HeardWord
  left : Left c offers speech unread (Payload judged ∷ later)
  only : (other : HeardWord) (rest : List HeardWord) → Left c offers speech unread (other ∷ rest) → other ≡ Payload judged

left_judged : (c : Codecs) (offers : List Dialect) (speech : Speech) (unread : List ℕ) (taken : List HeardWord) (kept : Option ToldWord) (n : ℕ) (judged : Judged) → AreDetermined c → JudgesFirst c.Negotiates → JudgesLater c.Reads → All (λ byte. byte < 256) unread → SpeaksSo speech taken kept → 0 < length taken → IsSkipped speech unread
    → (speech ≡ Over → ⊥) → whole_at unread ≡ Ok (Some n) → Judges c offers (spoken_by speech) (payload_at n unread) judged → LeftJudged c offers speech unread judged
left_judged c offers First unread taken kept n judged det first all octets s more skipped goes e is = absurd (let m : length taken ≡ 0 = ap length s in omega (arith, more, m))
left_judged c offers (Spoken d) unread taken kept n judged det first all octets s more skipped goes e is =
    let f = at_front unread n octets e in
    let l = words_left c offers (Spoken d) (behind_front unread) first all in
    record {
      later = l.0;
      left = subst (λ (u : List ℕ). Left c offers (Spoken d) u (Payload judged ∷ l.0)) (sym f.whole) (front_left c offers (Some d) (payload_at n unread) (behind_front unread) l.0 judged is f.short l.1);
      only = λ other rest x.
          let k = left_front c offers (Some d) (payload_at n unread) (behind_front unread) (other ∷ rest) judged det is f.short (subst (λ (u : List ℕ). Left c offers (Spoken d) u (other ∷ rest)) f.whole x) in
          sym (heads other (Payload judged) rest k.later k.words_are);
    }
left_judged c offers Unchosen unread taken kept n judged det first all octets s more skipped goes e is = absurd (skipped (n, e))
left_judged c offers Over unread taken kept n judged det first all octets s more skipped goes e is = absurd (goes refl)

front_word : (c : Codecs) (offers : List Dialect) (past : List Seen) (v : ToldStream) (own kept : ToldWord) (f : Result (Option ℕ) FrameFault) → AreDetermined c → JudgesFirst c.Negotiates → JudgesLater c.Reads → All (λ byte. byte < 256) v.words.unread → Stands c offers past v own → v.waits ≡ true
    → (v.words.speech ≡ Over → ⊥) → whole_at v.words.unread ≡ f → IsFront c offers v.words.speech v.words.unread f kept → NextIs c offers past kept
front_word c offers past v own kept (Ok None) det first all octets s waiting goes w is = absurd is
front_word c offers past v own kept (Ok (Some n)) det first all octets s waiting goes w (judged, judges, kept_is) =
    let k = s.kept in
    let long = open_long (length (replies s.es)) k.taken own s.is in
    let p = left_judged c offers v.words.speech v.words.unread k.taken v.words.kept n judged det first all octets k.speaks (omega (arith, long)) k.skipped goes w judges in
    record {
      word = Payload judged;
      kept_is = kept_is;
      next = behind_next c offers past v own (Payload judged) p.later s waiting p.left;
      only = λ other m.
          let b = next_behind c offers past v own other s waiting m in
          p.only other m.rest (subst (λ (ws : List HeardWord). Left c offers v.words.speech v.words.unread ws) b.later_is b.left);
    }
front_word c offers past v own kept (Err fault) det first all octets s waiting goes w is = record {
  word = Fault fault;
  kept_is = subst (λ (x : ToldWord). IsWord x (Fault fault)) (sym is) refl;
  next = behind_next c offers past v own (Fault fault) [] s waiting (fault_left c offers v.words.speech v.words.unread fault goes w);
  only = λ other n.
      let b = next_behind c offers past v own other s waiting n in
      heads (Fault fault) other [] n.rest (sym (left_fault c offers v.words.speech v.words.unread b.later fault goes w b.left) ∙ b.later_is);
}

word_by : (c : Codecs) (offers : List Dialect) (past : List Seen) (v : ToldStream) (own : ToldWord) (r : Option ToldWord) → AreDetermined c → JudgesFirst c.Negotiates → JudgesLater c.Reads → All (λ byte. byte < 256) v.words.unread → Stands c offers past v own → v.waits ≡ true → IsBehindWord c offers v.words r → TellsWord c offers past r
word_by c offers past v own None det first all octets s waiting is = λ word n.
    let b = next_behind c offers past v own word s waiting n in
    none_some word n.rest (sym (bare_none c offers v.words.speech v.words.unread b.later is b.left) ∙ b.later_is)
word_by c offers past v own (Some kept) det first all octets s waiting is = front_word c offers past v own kept (whole_at v.words.unread) det first all octets s waiting is.0 refl is.1

pub behind_word : (c : Codecs) (offers : List Dialect) (past : List Seen) (v : ToldStream) (own : ToldWord) (r : Option ToldWord) → AreDetermined c → JudgesFirst c.Negotiates → JudgesLater c.Reads → All (λ byte. byte < 256) v.words.unread → AreOf c offers past v → kept_in v ≡ Some own → v.waits ≡ true → IsBehindWord c offers v.words r → TellsWord c offers past r
behind_word c offers past v own r det first all octets h e waiting is = word_by c offers past v own r det first all octets (stands c offers past v own h e) waiting is

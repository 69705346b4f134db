-- A word that ends the session opens its contactor.
use Rattle.std.proofs.Common.{◌≡◌, ℕ, zero, suc, ◌+◌, Bool, true, false, if◌then◌else◌, List, [], ◌∷◌, length, drop, Option, Some, None, Ok, Err, refl, sym, ap, subst, ◌∙◌, inl, inr, ◌⊎◌, MatchBool, arith}
use Rattle.charge_world.specs.declared.offer.Dialect.{Dialect}
use Rattle.charge_world.specs.declared.ports.Order.{Order}
use Rattle.charge_world.specs.declared.ports.Order.TheVariants as order
use Rattle.session_words.specs.declared.cause.EndCause.{EndCause}
use Rattle.session_words.specs.declared.facts.Facts.{Facts}
use Rattle.session_words.specs.declared.phase.Phase.{Phase}
use Rattle.session_words.specs.declared.phase.Phase.TheVariants as row
use Rattle.session_words.specs.declared.plan.PostPlan.{PostPlan}
use Rattle.v2gtp_frames.specs.declared.FrameFault.{FrameFault}
use Rattle.v2gtp_frames.specs.Reading.{whole_at, payload_at, behind_frames}
use Rattle.session_rules.specs.Causes.{found_by, word_cause}
use Rattle.session_rules.specs.Orders.{order_of}
use Rattle.session_rules.specs.Stages.{is_waiting}
use Rattle.session_rules.specs.Verdict.{verdict}
use Rattle.post_spec.specs.Causes.{found_judged, found_word}
use Rattle.post_spec.specs.Codecs.{Judged, Negotiated, Asked, WrongSide, Refused, Codecs, Judges, judged_word}
use Rattle.post_spec.specs.Course.{Course, facts_of}
use Rattle.post_spec.specs.Sessions.{session, stream, waits, replies}
use Rattle.post_spec.specs.Spelled.{AreDetermined}
use Rattle.post_spec.specs.Steps.{Act, Give, Seen, Reading}
use Rattle.post_spec.specs.Talk.{Exchange, dialect_of}
use Rattle.post_spec.specs.Words.{HeardWord, Words, next_words}
use Rattle.station_spec.specs.States.{Agenda, Session, State, Wording, nothing, first, is_none, is_done}
use Rattle.station_spec.specs.States as states
use Rattle.station_spec.specs.Deciding.{fronting, from_wording, decided}
use Rattle.station_spec.specs.Judging.{Payload as Wanted, wanted, speaks, speaks_in, order_by, cause_by, judged, taken_in, read, IsRead}
use Rattle.station_spec.specs.Next.{IsQuiet, Acts}
use Rattle.read_runs.specs.Courses.{talked_of}
use Rattle.read_runs.proofs.Counting.{counted}
use Rattle.safe_runs.proofs.Links.{Rowed, Pending, Waits, Link, Tie, Clear}
use Rattle.safe_runs.proofs.Openings.{open_todo}
use Rattle.safe_runs.proofs.Rows.{RowHas}
use Rattle.safe_runs.proofs.Shut.{Still}
use Rattle.coming_causes_open.proofs.Opens.{OpensIn, Opens, opens_next, opens_busy}
use Rattle.coming_causes_open.proofs.Spoken.{Spoke, spoke, DialectAt, PayloadAt, word_at}

-- Open is what the post does next
pub record Next (c : Codecs) (plan : PostPlan) (s : State) : Type 1 where
  pub busy : IsQuiet plan s → ⊥
  pub acts : (S : ℕ → ℕ → Type 0) (r : Option Reading) (a : Act) (taken : Bool) → Acts c plan S s r a taken → a ≡ Give order.Open

pub opens_it : (c : Codecs) (plan : PostPlan) (s : State) → Opens plan s → Next c plan s
opens_it c plan s h = record { busy = opens_busy plan s h; acts = λ S r a taken acts. opens_next c plan S s r a taken h acts }

-- a word that was read, and is a cause
order_some : (cause : Option EndCause) (k : EndCause) (live : Bool) (o : Option Order) → cause ≡ Some k → live ≡ true → order_by cause live o ≡ Some order.Open
order_some None k live o e l = cc
order_some (Some cause) k live o e l = rw l refl

gives_first : (o : Option Order) (r : Option states.Spoken) (e : Option EndCause) → o ≡ Some order.Open → states.first_of None o r e ≡ Some (states.Give order.Open)
gives_first o r e h = rw h refl

found_opens : (plan : PostPlan) (past : List Seen) (course : Course) (s : State) (ss : Session) (x : Judged) (shown : ℕ) (k : EndCause) → s.facts ≡ facts_of past course → s.live ≡ true → word_cause false (found_judged (talked_of ss) past course plan x) ≡ Some k
    → OpensIn (judged plan s ss x shown).agenda
found_opens plan past course s ss (Negotiated chosen response) shown k f l h = cc
found_opens plan past course s ss (Asked r) shown k f l h =
    let e : cause_by ss.stage plan s r ≡ Some k = subst (λ (y : Facts). word_cause false (found_by (verdict ss.stage y plan r) r.ask) ≡ Some k) (sym f) h in
    gives_first _ _ _ (order_some (cause_by ss.stage plan s r) k s.live (order_of ss.stage s.facts plan r shown) e l)
found_opens plan past course s ss WrongSide shown k f l h = rw l refl
found_opens plan past course s ss Refused shown k f l h = rw l refl

-- where the word stands
words_there : (es : List Seen) (words : List HeardWord) (n : ℕ) (b : Bool) → waits es ≡ b → n ≡ (if b then length (replies es) + 1 else length (replies es)) → next_words es words ≡ drop n words
words_there es words n true w e = rw (w, e) refl
words_there es words n false w e = rw (w, e) refl

-- how many words were taken, and in which dialect the next one is
pub record Place (c : Codecs) (offers : List Dialect) (es : List Seen) (ss : Session) (taken : ℕ) : Type 0 where
  pub d : Option Dialect
  pub dialect : DialectAt c offers (stream es) taken d
  pub spoken : is_waiting ss.stage.row ≡ false → d ≡ speaks ss.stage
  pub there : (words : List HeardWord) → next_words es words ≡ drop taken words

pub connected : (here : Phase) (d : Dialect) → (here ≡ row.Connected) ⊎ (speaks_in here d ≡ Some d)
connected row.Connected d = inl refl
connected here d = inr refl

pub none_yet : (here : Phase) (xs : List Exchange) → here ≡ row.Connected → RowHas here xs → xs ≡ []
none_yet here xs e h = subst (λ (p : Phase). RowHas p xs) e h

dialect_at : (c : Codecs) (offers : List Dialect) (es : List Seen) (n : ℕ) (xs : List Exchange) (d : Dialect) → n ≡ length xs → dialect_of xs ≡ Some d → Spoke c offers (stream es) d → DialectAt c offers (stream es) n (Some d)
dialect_at c offers es zero [] d e h s = cc
dialect_at c offers es zero (x ∷ xs) d e h s = absurd (let l : length (x ∷ xs) ≡ suc (length xs) = refl in omega (arith, e, l))
dialect_at c offers es (suc n) xs d e h s = (d, refl, s)

dialect_none : (c : Codecs) (offers : List Dialect) (es : List Seen) (n : ℕ) → n ≡ 0 → DialectAt c offers (stream es) n None
dialect_none c offers es zero e = refl
dialect_none c offers es (suc n) e = absurd (omega (arith, e))

place_still : (c : Codecs) (plan : PostPlan) (past es : List Seen) (ss : Session) (l : Link c plan past es ss.stage ss.unread None None (Unit {0})) → session past ≡ Some es → waits es ≡ false → l.taken ≡ length l.xs → Rowed plan past ss.stage l.xs (Unit {0})
    → Place c plan.dialects.items es ss l.taken
place_still c plan past es ss l here w n r =
    let there : (words : List HeardWord) → next_words es words ≡ drop l.taken words = λ words. words_there es words l.taken false w (n ∙ sym (counted c plan.dialects.items past es l.xs here l.talks)) in
    elim (connected ss.stage.row ss.stage.dialect) [
      | inl x ↦
          let none = none_yet ss.stage.row l.xs x r.has in
          record { d = None; dialect = dialect_none c plan.dialects.items es l.taken (n ∙ ap length none); spoken = λ q. sym (ap dialect_of none) ∙ r.dialect; there = there }
      | inr x ↦
          let d = r.dialect ∙ x in
          record { d = Some ss.stage.dialect; dialect = dialect_at c plan.dialects.items es l.taken l.xs ss.stage.dialect n d (spoke c plan.dialects.items past es l.xs ss.stage.dialect here l.talks d); spoken = λ q. sym x; there = there }
    ]

dialect_later : (c : Codecs) (offers : List Dialect) (es : List Seen) (n m : ℕ) (d : Dialect) → n ≡ suc m → Spoke c offers (stream es) d → DialectAt c offers (stream es) n (Some d)
dialect_later c offers es zero m d e s = absurd (omega (arith, e))
dialect_later c offers es (suc n) m d e s = (d, refl, s)

place_waits : (c : Codecs) (plan : PostPlan) (past es : List Seen) (ss : Session) (l : Link c plan past es ss.stage ss.unread None None (Unit {0})) → session past ≡ Some es → is_waiting ss.stage.row ≡ true → waits es ≡ true
    → Waits c plan past es l.xs l.taken ss.stage None (Unit {0}) → Place c plan.dialects.items es ss l.taken
place_waits c plan past es ss l here w u t =
    let n = counted c plan.dialects.items past es l.xs here l.talks in
    let m : l.taken ≡ length (replies es) + 1 = let k = t.count in omega (arith, k, n) in
    record {
      d = Some ss.stage.dialect;
      dialect = dialect_later c plan.dialects.items es l.taken (length l.xs) ss.stage.dialect t.count (spoke c plan.dialects.items past es l.xs ss.stage.dialect here l.talks t.asks.dialect_is);
      spoken = λ q. absurd (let x : true ≡ false = sym w ∙ q in cc);
      there = λ words. words_there es words l.taken true u m;
    }

place_by : (c : Codecs) (plan : PostPlan) (past es : List Seen) (ss : Session) (b : Bool) (l : Link c plan past es ss.stage ss.unread None None (Unit {0})) → session past ≡ Some es → is_waiting ss.stage.row ≡ b → (b ≡ true → waits es ≡ true)
    → MatchBool b (Waits c plan past es l.xs l.taken ss.stage None (Unit {0})) (Pending c plan past es l.xs l.taken ss.stage None None (Unit {0})) → Place c plan.dialects.items es ss l.taken
place_by c plan past es ss true l here w u t = place_waits c plan past es ss l here w (u refl) t
place_by c plan past es ss false l here w u t = place_still c plan past es ss l here (l.quiet w) t.0 t.1

tie_of : (c : Codecs) (plan : PostPlan) (past : List Seen) (es : Option (List Seen)) (kept : Option Session) (zs : List Seen) (ss : Session) → es ≡ Some zs → kept ≡ Some ss → Tie c plan past None es kept None None (Unit {0}) → Link c plan past zs ss.stage ss.unread None None (Unit {0})
tie_of c plan past es None zs ss h k t = cc
tie_of c plan past None (Some ts) zs ss h k t = cc
tie_of c plan past (Some ys) (Some ts) zs ss h k t =
    let x : ts ≡ ss = cc in
    let y : ys ≡ zs = cc in
    subst (λ (us : List Seen). Link c plan past us ss.stage ss.unread None None (Unit {0})) y (subst (λ (u : Session). Link c plan past ys u.stage u.unread None None (Unit {0})) x t)

-- a payload is judged one way
pub word_same : (c : Codecs) (offers : List Dialect) (d : Option Dialect) (payload : List ℕ) (a b : Judged) → AreDetermined c → Judges c offers d payload a → Judges c offers d payload b → a ≡ b
word_same c offers None payload a b det p q = det.negotiates offers payload a b p q
word_same c offers (Some d) payload a b det p q = p.2 ∙ ap judged_word (det.reads d payload p.0 q.0 p.1 q.1) ∙ sym q.2

-- at the words: what was decided is done
pub record AtWords (c : Codecs) (plan : PostPlan) (past : List Seen) (course : Course) (s : State) (es : List Seen) (ss : Session) : Type 0 where
  pub done : is_done s.agenda ≡ true
  pub clear : Clear c plan past s
  pub still : Still (session past) s.session
  pub live_is : s.live ≡ true
  pub facts_are : s.facts ≡ facts_of past course
  pub session_is : session past ≡ Some es
  pub kept_is : s.session ≡ Some ss

front_open : (s : State) (b : Bool) → is_done (fronting s.session s.live) ≡ b → OpensIn (fronting s.session s.live) → OpensIn (from_wording s).agenda
front_open s true e h = absurd (let x : false ≡ true = sym (ap is_none h) ∙ e in cc)
front_open s false e h = rw e h

fault_opens : (kept : Option Session) (ss : Session) (fault : FrameFault) (live : Bool) → kept ≡ Some ss → whole_at ss.unread ≡ Err fault → live ≡ true → OpensIn (fronting kept live)
fault_opens kept ss fault live k w l = rw (k, w, l) refl

early_opens : (kept : Option Session) (ss : Session) (n : ℕ) (live : Bool) → kept ≡ Some ss → whole_at ss.unread ≡ Ok (Some n) → is_waiting ss.stage.row ≡ true → live ≡ true → OpensIn (fronting kept live)
early_opens kept ss n live k w e l = rw (k, w, e, l) refl

front_none : (kept : Option Session) (ss : Session) (n : ℕ) (live : Bool) → kept ≡ Some ss → whole_at ss.unread ≡ Ok (Some n) → is_waiting ss.stage.row ≡ false → fronting kept live ≡ nothing
front_none kept ss n live k w e = rw (k, w, e) refl

stays_there : (s : State) → fronting s.session s.live ≡ nothing → from_wording s ≡ s
stays_there s h = rw h refl

wanted_there : (s : State) (ss : Session) (n : ℕ) → is_done s.agenda ≡ true → s.session ≡ Some ss → whole_at ss.unread ≡ Ok (Some n) → is_waiting ss.stage.row ≡ false → wanted s ≡ Some (record { dialect = speaks ss.stage; bytes = payload_at n ss.unread })
wanted_there s ss n d k w e = rw (d, k, e, w) refl

-- what is read there
read_opens : (c : Codecs) (plan : PostPlan) (past : List Seen) (course : Course) (S : ℕ → ℕ → Type 0) (s : State) (ss : Session) (p : Wanted) (r : Option Reading) (todo : states.Todo) (x : Judged) (k : EndCause) → AreDetermined c → s.session ≡ Some ss → s.facts ≡ facts_of past course → s.live ≡ true
    → Judges c plan.dialects.items p.dialect p.bytes x → word_cause false (found_judged (talked_of ss) past course plan x) ≡ Some k → IsRead c plan S s (Some p) r → first (read plan s r).agenda ≡ Some todo → todo ≡ states.Give order.Open
read_opens c plan past course S s ss p None todo x k det h f l j w i t = absurd i
read_opens c plan past course S s ss p (Some r) todo x k det h f l j w i t =
    let same : r.judged ≡ x = word_same c plan.dialects.items p.dialect p.bytes r.judged x det i.0 j in
    let o = found_opens plan past course s ss r.judged r.shown k f l (subst (λ (y : Judged). word_cause false (found_judged (talked_of ss) past course plan y) ≡ Some k) (sym same) w) in
    let e : read plan s (Some r) ≡ judged plan s ss r.judged r.shown = ap (λ (kept : Option Session). taken_in plan s kept r) h in
    let g : Some todo ≡ Some (states.Give order.Open) = sym t ∙ ap (λ (u : State). first u.agenda) e ∙ o in
    cc

reads_next : (c : Codecs) (plan : PostPlan) (past : List Seen) (course : Course) (s : State) (ss : Session) (p : Wanted) (x : Judged) (k : EndCause) → AreDetermined c → decided plan s ≡ s → wanted s ≡ Some p → s.session ≡ Some ss → s.facts ≡ facts_of past course → s.live ≡ true
    → Judges c plan.dialects.items p.dialect p.bytes x → word_cause false (found_judged (talked_of ss) past course plan x) ≡ Some k → Next c plan s
reads_next c plan past course s ss p x k det d w h f l j e = record {
  busy = λ q. let y : None ≡ Some p = sym q.no_word ∙ ap wanted d ∙ w in cc;
  acts = λ S r a taken acts.
      let i = subst (λ (u : State). IsRead c plan S u (wanted u) r) d acts.read in
      let i2 = subst (λ (v : Option Wanted). IsRead c plan S s v r) w i in
      let t = subst (λ (u : State). first (read plan u r).agenda ≡ Some acts.todo) d acts.acts in
      open_todo c acts.todo a taken acts.done (read_opens c plan past course S s ss p r acts.todo x k det h f l j e i2 t);
}

-- the word ends the session
payload_next : (c : Codecs) (plan : PostPlan) (past : List Seen) (course : Course) (s : State) (es : List Seen) (ss : Session) (taken : ℕ) (word : HeardWord) (k : EndCause) (b : Bool) → AreDetermined c → AtWords c plan past course s es ss → (decided plan s ≡ from_wording s) → ss.unread ≡ behind_frames taken (stream es)
    → (p : Place c plan.dialects.items es ss taken) → PayloadAt c plan.dialects.items (stream es) taken p.d word → is_waiting ss.stage.row ≡ b → waits es ≡ b → word_cause (waits es) (found_word (talked_of ss) past course plan word) ≡ Some k → Next c plan s
payload_next c plan past course s es ss taken word k true det a d u p x w q h =
    let whole : whole_at ss.unread ≡ Ok (Some x.at.count) = ap whole_at u ∙ x.at.whole in
    opens_it c plan s (ap (λ (t : State). first t.agenda) d ∙ front_open s (is_done (fronting s.session s.live)) refl (early_opens s.session ss x.at.count s.live a.kept_is whole w a.live_is))
payload_next c plan past course s es ss taken word k false det a d u p x w q h =
    let whole : whole_at ss.unread ≡ Ok (Some x.at.count) = ap whole_at u ∙ x.at.whole in
    let n = front_none s.session ss x.at.count s.live a.kept_is whole w in
    let bytes : payload_at x.at.count ss.unread ≡ x.payload = ap (payload_at x.at.count) u ∙ sym x.at.payload_is in
    let j = subst (λ (y : Option Dialect). Judges c plan.dialects.items y x.payload x.judged) (p.spoken w) x.by in
    let j2 = subst (λ (ys : List ℕ). Judges c plan.dialects.items (speaks ss.stage) ys x.judged) (sym bytes) j in
    let e : word_cause false (found_judged (talked_of ss) past course plan x.judged) ≡ Some k = subst (λ (y : HeardWord). word_cause false (found_word (talked_of ss) past course plan y) ≡ Some k) x.word_is (subst (λ (y : Bool). word_cause y (found_word (talked_of ss) past course plan word) ≡ Some k) q h) in
    reads_next c plan past course s ss (record { dialect = speaks ss.stage; bytes = payload_at x.at.count ss.unread }) x.judged k det (d ∙ stays_there s n) (wanted_there s ss x.at.count a.done a.kept_is whole w) a.kept_is a.facts_are a.live_is j2 e

waits_as : (es : List Seen) (lives : Option (List Seen)) (kept : Option Session) (ss : Session) (b : Bool) → is_waiting ss.stage.row ≡ b → Still lives kept → lives ≡ Some es → kept ≡ Some ss → (is_waiting ss.stage.row ≡ false → waits es ≡ false) → waits es ≡ b
waits_as es lives kept ss true w s l k q = s es ss l k w
waits_as es lives kept ss false w s l k q = q w

pub word_next : (c : Codecs) (plan : PostPlan) (past : List Seen) (course : Course) (s : State) (es : List Seen) (ss : Session) (words tail : List HeardWord) (word : HeardWord) (k : EndCause) → AreDetermined c → AtWords c plan past course s es ss → (decided plan s ≡ from_wording s)
    → Words c plan.dialects.items (stream es) words → next_words es words ≡ word ∷ tail → word_cause (waits es) (found_word (talked_of ss) past course plan word) ≡ Some k → Next c plan s
word_next c plan past course s es ss words tail word k det a d heard next h =
    let l = tie_of c plan past (session past) s.session es ss a.session_is a.kept_is a.clear.tie in
    let w = waits_as es (session past) s.session ss (is_waiting ss.stage.row) refl a.still a.session_is a.kept_is l.quiet in
    let p = place_by c plan past es ss (is_waiting ss.stage.row) l a.session_is refl (λ e. w ∙ e) l.talk in
    elim (word_at c plan.dialects.items (stream es) words tail l.taken p.d word det heard p.dialect (sym (p.there words) ∙ next)) [
      | inl x ↦
          opens_it c plan s (ap (λ (t : State). first t.agenda) d ∙ front_open s (is_done (fronting s.session s.live)) refl (fault_opens s.session ss x.fault s.live a.kept_is (ap whole_at l.unread_is ∙ x.at) a.live_is))
      | inr x ↦ payload_next c plan past course s es ss l.taken word k (is_waiting ss.stage.row) det a d l.unread_is p x refl w h
    ]

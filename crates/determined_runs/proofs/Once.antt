-- One act follows.
use Rattle.std.proofs.Common.{arith, ◌≡◌, ℕ, ◌+◌, ◌-◌, min, Bool, true, false, ◌&&◌, List, [], ◌∷◌, ◌++◌, length, map, Option, Some, None, refl, sym, ap, subst, ◌∙◌, inl, inr, MatchBool}
use Rattle.charge_world.specs.declared.entry.Entry.{Entry}
use Rattle.charge_world.specs.declared.entry.Entry.TheVariants as entry
use Rattle.charge_world.specs.declared.offer.Dialect.{Dialect}
use Rattle.session_words.specs.declared.plan.PostPlan.{PostPlan}
use Rattle.session_words.specs.declared.plan.SitePlan.{SitePlan}
use Rattle.v2gtp_frames.specs.Frames.{frame}
use Rattle.session_rules.specs.Asks.{shows_watts}
use Rattle.session_rules.specs.Verdict.{verdict, is_accepted}
use Rattle.power_share.specs.Sharing.{IsLevel}
use Rattle.post_spec.specs.Codecs.{Judged, Negotiated, Asked, WrongSide, Refused, Codecs, Judges, judged_word}
use Rattle.post_spec.specs.Spelled.{AreDetermined}
use Rattle.post_spec.specs.Steps.{Act, Send, Reading, Does}
use Rattle.station_spec.specs.States.{Spoken, Response, Said, Session, State, first}
use Rattle.station_spec.specs.States as states
use Rattle.station_spec.specs.Deciding.{decided}
use Rattle.station_spec.specs.Judging.{Payload, wanted, filled, asked_behind, IsShown, IsRead}
use Rattle.station_spec.specs.Next.{IsQuiet, IsSpoken, IsDone, Acts}
use Rattle.station_spec.specs.Sharing.{Post, state_of, asked_of, told_total, Shows}
use Rattle.station_spec.specs.Runs.{entry_of, with_step, Rests, AreQuiet, HeardBy, MayAct, Follows}
use Rattle.determined_runs.specs.Determined.{outcome, heard_in, RunsAreDetermined, InputsDetermine}

-- one word, one level, one share
word_once : (c : Codecs) → AreDetermined c → (offers : List Dialect) (d : Option Dialect) (payload : List ℕ) (a b : Judged) → Judges c offers d payload a → Judges c offers d payload b → a ≡ b
word_once c one offers None payload a b j k = one.negotiates offers payload a b j k
word_once c one offers (Some d) payload a b j k = j.2 ∙ ap judged_word (one.reads d payload j.0 k.0 j.1 k.1) ∙ sym k.2

level_once : (limit : ℕ) (asks : List ℕ) (m n : ℕ) → IsLevel limit asks m → IsLevel limit asks n → m ≡ n
level_once limit asks m n a b = let x = a.greatest n b.bearable in let y = b.greatest m a.bearable in omega (arith, x, y)

shown_once : (limit : ℕ) (before behind : List Post) (asked m n : ℕ) → Shows limit before behind asked m → Shows limit before behind asked n → m ≡ n
shown_once limit before behind asked m n a b =
    let l = level_once limit (map asked_of before ++ asked ∷ map asked_of behind) a.level b.level a.is_level b.is_level in
    a.least ∙ ap (λ (k : ℕ). min (min asked k) (limit - (told_total before + told_total behind))) l ∙ sym b.least

shows_once : (b : Bool) (limit : ℕ) (before behind : List Post) (asked m n : ℕ) → MatchBool b (Shows limit before behind asked m) (m ≡ 0) → MatchBool b (Shows limit before behind asked n) (n ≡ 0) → m ≡ n
shows_once true limit before behind asked m n a b = shown_once limit before behind asked m n a b
shows_once false limit before behind asked m n a b = a ∙ sym b

watts_once : (limit : ℕ) (before behind : List Post) (plan : PostPlan) (s : State) (kept : Option Session) (w : Judged) (m n : ℕ) → IsShown (Shows limit before behind) plan s kept w m → IsShown (Shows limit before behind) plan s kept w n → m ≡ n
watts_once limit before behind plan s None w m n a b = a ∙ sym b
watts_once limit before behind plan s (Some ss) (Asked r) m n a b = shows_once (is_accepted (verdict ss.stage s.facts plan r) && shows_watts r.ask) limit before behind (asked_behind ss plan s r) m n a b
watts_once limit before behind plan s (Some ss) (Negotiated chosen response) m n a b = a ∙ sym b
watts_once limit before behind plan s (Some ss) WrongSide m n a b = a ∙ sym b
watts_once limit before behind plan s (Some ss) Refused m n a b = a ∙ sym b

read_once : (c : Codecs) → AreDetermined c → (limit : ℕ) (before behind : List Post) (plan : PostPlan) (s : State) (w : Option Payload) (r r' : Option Reading) → IsRead c plan (Shows limit before behind) s w r → IsRead c plan (Shows limit before behind) s w r' → r ≡ r'
read_once c one limit before behind plan s None None None i k = refl
read_once c one limit before behind plan s None None (Some y) i k = absurd k
read_once c one limit before behind plan s None (Some x) r' i k = absurd i
read_once c one limit before behind plan s (Some p) None r' i k = absurd i
read_once c one limit before behind plan s (Some p) (Some x) None i k = absurd k
read_once c one limit before behind plan s (Some p) (Some x) (Some y) i k =
    let w = word_once c one plan.dialects.items p.dialect p.bytes x.judged y.judged i.0 k.0 in
    let n = watts_once limit before behind plan s s.session y.judged x.shown y.shown (subst (λ (j : Judged). IsShown (Shows limit before behind) plan s s.session j x.shown) w i.1) k.1 in
    ap (λ (j : Judged). Some (record { judged = j; shown = x.shown })) w ∙ ap (λ (m : ℕ). Some (record { judged = y.judged; shown = m })) n

spoken_once : (c : Codecs) → AreDetermined c → (spoken : Spoken) (x y : List ℕ) → IsSpoken c spoken x → IsSpoken c spoken y → x ≡ y
spoken_once c one (Response payload) x y i k = i ∙ sym k
spoken_once c one (Said d reply) x y i k = i.2 ∙ ap frame (one.encodes d reply i.0 k.0 i.1 k.1) ∙ sym k.2

done_once : (c : Codecs) → AreDetermined c → (todo : states.Todo) (a b : Act) (t u : Bool) → IsDone c todo a t → IsDone c todo b u → a ≡ b
done_once c one (states.Tell d) a b t u i k = i ∙ sym k
done_once c one (states.Give o) a b t u i k = i ∙ sym k
done_once c one (states.Say spoken) a b t u i k = i.2 ∙ ap Send (spoken_once c one spoken i.0 k.0 i.1 k.1) ∙ sym k.2
done_once c one (states.Finish cause) a b t u i k = i.0 ∙ sym k.0

some_todo : (a b : states.Todo) → Some a ≡ Some b → a ≡ b
some_todo a b h = cc

act_once : (c : Codecs) → AreDetermined c → (limit : ℕ) (before behind : List Post) (plan : PostPlan) (s : State) (r r' : Option Reading) (a a' : Act) (t t' : Bool) → Acts c plan (Shows limit before behind) s r a t → Acts c plan (Shows limit before behind) s r' a' t' → (r ≡ r') × (a ≡ a')
act_once c one limit before behind plan s r r' a a' t t' x y =
    let i = read_once c one limit before behind plan (decided plan s) (wanted (decided plan s)) r r' x.read y.read in
    let w = some_todo x.todo y.todo (sym x.acts ∙ ap (λ (q : Option Reading). first (filled plan q s).agenda) i ∙ y.acts) in
    (i, done_once c one x.todo a a' t t' x.done (subst (λ (q : states.Todo). IsDone c q a' t') (sym w) y.done))

-- the outcome
taken_is : (c : Codecs) (todo : states.Todo) (k : ℕ) (a : Act) (t : Bool) → IsDone c todo a t → outcome (entry_of k a t) ≡ t
taken_is c (states.Tell d) k a t i = subst (λ (x : Act). outcome (entry_of k x t) ≡ t) (sym i) refl
taken_is c (states.Give o) k a t i = subst (λ (x : Act). outcome (entry_of k x t) ≡ t) (sym i) refl
taken_is c (states.Say spoken) k a t i = subst (λ (x : Act). outcome (entry_of k x t) ≡ t) (sym i.2) refl
taken_is c (states.Finish cause) k a t i = subst (λ (x : Act). outcome (entry_of k x t) ≡ t) (sym i.0) (sym i.1)

-- at rest nothing is done
busy_read : (c : Codecs) (plan : PostPlan) (S : ℕ → ℕ → Type 0) (s : State) (r : Option Reading) (todo : states.Todo) → IsQuiet plan s → IsRead c plan S (decided plan s) (wanted (decided plan s)) r → first (filled plan r s).agenda ≡ Some todo → ⊥
busy_read c plan S s None todo q i f = let g : None ≡ Some todo = sym q.none ∙ f in cc
busy_read c plan S s (Some x) todo q i f = subst (λ (w : Option Payload). IsRead c plan S (decided plan s) w (Some x)) q.no_word i

busy : (c : Codecs) (limit : ℕ) (posts : List Post) (e : Entry) (later : List Post) (m : MayAct c limit posts e later) → Rests m.post → ⊥
busy c limit posts e later m q = busy_read c m.post.plan (Shows limit m.before m.behind) (state_of m.post) m.reading m.acts.todo q m.acts.read m.acts.acts

-- so the acting post is one
same_post : (p q : Post) (ps qs : List Post) → p ∷ ps ≡ q ∷ qs → p ≡ q
same_post p q ps qs h = cc

same_rest : (p q : Post) (ps qs : List Post) → p ∷ ps ≡ q ∷ qs → ps ≡ qs
same_rest p q ps qs h = cc

split_once : (before before' : List Post) (p p' : Post) (behind behind' : List Post) → before ++ p ∷ behind ≡ before' ++ p' ∷ behind' → AreQuiet before → AreQuiet before' → (Rests p → ⊥) → (Rests p' → ⊥) → (before ≡ before') × (p ≡ p') × (behind ≡ behind')
split_once [] [] p p' behind behind' h q q' n n' = (refl, same_post p p' behind behind' h, same_rest p p' behind behind' h)
split_once [] (b ∷ bs) p p' behind behind' h q q' n n' = absurd (n (subst Rests (sym (same_post p b behind (bs ++ p' ∷ behind') h)) q'.0))
split_once (b ∷ bs) [] p p' behind behind' h q q' n n' = absurd (n' (subst Rests (same_post b p' (bs ++ p ∷ behind) behind' h) q.0))
split_once (b ∷ bs) (b' ∷ bs') p p' behind behind' h q q' n n' =
    let i = same_post b b' (bs ++ p ∷ behind) (bs' ++ p' ∷ behind') h in
    let s = split_once bs bs' p p' behind behind' (same_rest b b' (bs ++ p ∷ behind) (bs' ++ p' ∷ behind') h) q.1 q'.1 n n' in
    (ap (λ (x : Post). x ∷ bs) i ∙ ap (λ (xs : List Post). b' ∷ xs) s.0, s.1, s.2)

acts_same : (c : Codecs) → AreDetermined c → (limit : ℕ) (before before' behind behind' : List Post) (p p' : Post) (r r' : Option Reading) (a a' : Act) (t t' : Bool) → before ≡ before' → p ≡ p' → behind ≡ behind'
    → Acts c p.plan (Shows limit before behind) (state_of p) r a t → Acts c p'.plan (Shows limit before' behind') (state_of p') r' a' t' → (r ≡ r') × (a ≡ a')
acts_same c one limit before before' behind behind' p p' r r' a a' t t' i j k x y =
    let z = subst (λ (xs : List Post). Acts c p.plan (Shows limit xs behind) (state_of p) r' a' t') (sym i)
    (subst (λ (xs : List Post). Acts c p.plan (Shows limit before' xs) (state_of p) r' a' t') (sym k)
    (subst (λ (q : Post). Acts c q.plan (Shows limit before' behind') (state_of q) r' a' t') (sym j) y)) in
    act_once c one limit before behind p.plan (state_of p) r r' a a' t t' x z

acted_once : (c : Codecs) → AreDetermined c → (limit : ℕ) (posts : List Post) (e e' : Entry) (later later' : List Post) → MayAct c limit posts e later → MayAct c limit posts e' later' → outcome e ≡ outcome e' → (e ≡ e') × (later ≡ later')
acted_once c one limit posts e e' later later' m m' o =
    let s = split_once m.before m'.before m.post m'.post m.behind m'.behind (sym m.posts_are ∙ m'.posts_are) m.first m'.first (busy c limit posts e later m) (busy c limit posts e' later' m') in
    let x = acts_same c one limit m.before m'.before m.behind m'.behind m.post m'.post m.reading m'.reading m.act m'.act m.taken m'.taken s.0 s.1 s.2 m.acts m'.acts in
    let t : m.taken ≡ m'.taken =
    sym (taken_is c m.acts.todo (length m.before + 1) m.act m.taken m.acts.done) ∙ sym (ap outcome m.entry_is) ∙ o ∙ ap outcome m'.entry_is ∙ taken_is c m'.acts.todo (length m'.before + 1) m'.act m'.taken m'.acts.done in
    let e1 = ap (λ (xs : List Post). entry_of (length xs + 1) m.act m.taken) s.0 ∙ ap (λ (y : Act). entry_of (length m'.before + 1) y m.taken) x.1 ∙ ap (entry_of (length m'.before + 1) m'.act) t in
    let l1 = ap (λ (xs : List Post). xs ++ with_step (Does m.reading m.act m.taken) m.post ∷ m.behind) s.0
    ∙ ap (λ (q : Post). m'.before ++ with_step (Does m.reading m.act m.taken) q ∷ m.behind) s.1
    ∙ ap (λ (xs : List Post). m'.before ++ with_step (Does m.reading m.act m.taken) m'.post ∷ xs) s.2
    ∙ ap (λ (q : Option Reading). m'.before ++ with_step (Does q m.act m.taken) m'.post ∷ m'.behind) x.0
    ∙ ap (λ (y : Act). m'.before ++ with_step (Does m'.reading y m.taken) m'.post ∷ m'.behind) x.1
    ∙ ap (λ (b : Bool). m'.before ++ with_step (Does m'.reading m'.act b) m'.post ∷ m'.behind) t in
    (m.entry_is ∙ e1 ∙ sym m'.entry_is, m.later_is ∙ l1 ∙ sym m'.later_is)

heard_once : (past : List Entry) (posts : List Post) (e : Entry) (later later' : List Post) → HeardBy past posts e later → HeardBy past posts e later' → later ≡ later'
heard_once past posts (entry.Heard h bytes) later later' a b = a.2 ∙ sym b.2
heard_once past posts entry.Lost later later' a b = a ∙ sym b
heard_once past posts (entry.Sent post bytes taken) later later' a b = absurd a
heard_once past posts (entry.Answered post bytes taken) later later' a b = absurd a
heard_once past posts (entry.Drove post order taken) later later' a b = absurd a
heard_once past posts (entry.Dialed port taken) later later' a b = absurd a
heard_once past posts (entry.Ended post cause) later later' a b = absurd a

quiet_of : (before : List Post) (p : Post) (behind : List Post) → AreQuiet (before ++ p ∷ behind) → Rests p
quiet_of [] p behind all = all.0
quiet_of (b ∷ before) p behind all = quiet_of before p behind all.1

pub runs_are_determined : (c : Codecs) → RunsAreDetermined c
runs_are_determined c site past posts one = record {
  acts = λ e e' later later' m m' o. acted_once c one site.limit posts e e' later later' m m' o;
  hears = λ e later later' h h'. heard_once past posts e later later' h.heard h'.heard;
  apart = λ e e' later later' h m. busy c site.limit posts e' later' m (quiet_of m.before m.post m.behind (subst AreQuiet m.posts_are h.whole));
}

is_heard : (past : List Entry) (posts : List Post) (e : Entry) (later : List Post) → HeardBy past posts e later → heard_in e ≡ Some e
is_heard past posts (entry.Heard h bytes) later a = refl
is_heard past posts entry.Lost later a = refl
is_heard past posts (entry.Sent post bytes taken) later a = absurd a
is_heard past posts (entry.Answered post bytes taken) later a = absurd a
is_heard past posts (entry.Drove post order taken) later a = absurd a
is_heard past posts (entry.Dialed port taken) later a = absurd a
is_heard past posts (entry.Ended post cause) later a = absurd a

some_entry : (a b : Entry) → Some a ≡ Some b → a ≡ b
some_entry a b h = cc

same_first : (a b : Option Entry) (xs ys : List (Option Entry)) → a ∷ xs ≡ b ∷ ys → (a ≡ b) × (xs ≡ ys)
same_first a b xs ys h = (cc, cc)

same_outcome : (a b : Bool) (xs ys : List Bool) → a ∷ xs ≡ b ∷ ys → (a ≡ b) × (xs ≡ ys)
same_outcome a b xs ys h = (cc, cc)

follows_once : (c : Codecs) → AreDetermined c → (site : SitePlan) (past : List Entry) (posts : List Post) (e e' : Entry) (later later' : List Post) → Follows c site past posts e later → Follows c site past posts e' later' → heard_in e ≡ heard_in e' → outcome e ≡ outcome e' → (e ≡ e') × (later ≡ later')
follows_once c one site past posts e e' later later' (inl h) (inl k) i o =
    let s : e ≡ e' = some_entry e e' (sym (is_heard past posts e later h.heard) ∙ i ∙ is_heard past posts e' later' k.heard) in
    (s, heard_once past posts e later later' h.heard (subst (λ (x : Entry). HeardBy past posts x later') (sym s) k.heard))
follows_once c one site past posts e e' later later' (inl h) (inr m) i o = absurd (busy c site.limit posts e' later' m (quiet_of m.before m.post m.behind (subst AreQuiet m.posts_are h.whole)))
follows_once c one site past posts e e' later later' (inr m) (inl h) i o = absurd (busy c site.limit posts e later m (quiet_of m.before m.post m.behind (subst AreQuiet m.posts_are h.whole)))
follows_once c one site past posts e e' later later' (inr m) (inr n) i o = acted_once c one site.limit posts e e' later later' m n o

pub inputs_determine : (c : Codecs) → InputsDetermine c
inputs_determine c site [] [] posts posts' one run run' h o = (refl, run ∙ sym run')
inputs_determine c site [] (e ∷ past) posts posts' one run run' h o = absurd (cc)
inputs_determine c site (e ∷ past) [] posts posts' one run run' h o = absurd (cc)
inputs_determine c site (e ∷ past) (e' ∷ past') posts posts' one (before, run, f) (before', run', f') h o =
    let i = same_first (heard_in e) (heard_in e') (map heard_in past) (map heard_in past') h in
    let p = same_outcome (outcome e) (outcome e') (map outcome past) (map outcome past') o in
    let s = inputs_determine c site past past' before before' one run run' i.1 p.1 in
    let g = subst (λ (xs : List Entry). Follows c site xs before e' posts') (sym s.0) (subst (λ (ps : List Post). Follows c site past' ps e' posts') (sym s.1) f') in
    let n = follows_once c one site past before e e' posts posts' f g i.0 p.0 in
    (ap (λ (x : Entry). x ∷ past) n.0 ∙ ap (λ (xs : List Entry). e' ∷ xs) s.0, n.1)

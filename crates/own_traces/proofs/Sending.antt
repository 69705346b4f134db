-- Where a station sent something, in a whole run.
use Rattle.std.proofs.Common.{◌≡◌, ℕ, suc, Bool, true, false, List, [], ◌∷◌, ◌++◌, map, Option, Some, None, refl, sym, ap, subst, ◌∙◌, MatchBool}
use Rattle.std.specs.Prelude.{IsSome}
use Rattle.std.proofs.lemmas.Bool.{eq-eqb}
use Rattle.charge_world.specs.declared.entry.Entry.{Entry}
use Rattle.charge_world.specs.declared.entry.Entry.TheVariants as entry
use Rattle.charge_world.specs.declared.ports.Order.TheVariants as order
use Rattle.session_words.specs.declared.cause.EndCause.{EndCause}
use Rattle.session_words.specs.declared.plan.PostPlan.{PostPlan}
use Rattle.session_words.specs.declared.plan.SitePlan.{SitePlan}
use Rattle.post_spec.specs.Codecs.{Codecs}
use Rattle.post_spec.specs.Sessions.{session}
use Rattle.post_spec.specs.Spelled.{ReadsBack, AreDetermined}
use Rattle.post_spec.specs.Steps.{Act, Send, Seen, Did, Reading, Step, Hears, Does, seen, seen_of}
use Rattle.post_spec.specs.Talk.{Exchange, Talks}
use Rattle.station_spec.specs.States.{Spoken, Session}
use Rattle.station_spec.specs.Acting.{state}
use Rattle.station_spec.specs.Sharing.{Post, state_of}
use Rattle.station_spec.specs.Runs.{IsRun, Closes, IsSiteRun}
use Rattle.station_laws.specs.PostRuns.{IsPostRun, ArePostsOf}
use Rattle.station_laws.proofs.PostRuns.{run_posts, post_at}
use Rattle.silent_runs.proofs.Silence.{runs_are_silent}
use Rattle.silent_runs.specs.Silent.{IsSilent}
use Rattle.served_sessions.proofs.Bytes.{AreHeard, run_heard, stream_octets}
use Rattle.next_words.specs.Next.{AreReadInOrder}
use Rattle.next_words.proofs.Order.{runs_read_in_order}
use Rattle.spelled_watts.specs.Spelling.{NegotiatesFirst}
use Rattle.spelled_watts.proofs.Fronts.{front_run}
use Rattle.spelled_watts.proofs.Links.{Tie}
use Rattle.spelled_watts.proofs.Tied.{steps_tied}
use Rattle.spelled_watts.proofs.Shares.{said}
use Rattle.told_pasts.specs.Checks.{opens}
use Rattle.own_traces.proofs.Places.{Of}
use Rattle.own_traces.proofs.Answering.{IsSent, step_sent}
use Rattle.own_traces.proofs.Saying.{Lives}

-- ---- what doesn't open stands in the blocks of a run

abbrev pub StandsIn : List Entry → Entry → List Entry → Type 0
StandsIn blocks e earlier = (behind : List Entry) × (blocks ≡ behind ++ e ∷ earlier)

below : (j : ℕ) (taken : Bool) (blocks : List Entry) (e : Entry) (earlier behind : List Entry) → opens e ≡ false → entry.Drove j order.Open taken ∷ blocks ≡ behind ++ e ∷ earlier → StandsIn blocks e earlier
below j taken blocks e earlier [] shut is =
    let same : entry.Drove j order.Open taken ≡ e = cc in
    absurd (let x : true ≡ false = ap opens same ∙ shut in cc)
below j taken blocks e earlier (b ∷ behind) shut is = let rest : blocks ≡ behind ++ e ∷ earlier = cc in (behind, rest)

below_one : (j : ℕ) (posts : List Post) (blocks past : List Entry) (e : Entry) (earlier : List Entry) (b : Bool) → opens e ≡ false → ((bs : List Entry) → Closes (suc j) posts bs past → StandsIn bs e earlier)
    → MatchBool b ((taken : Bool) × Closes (suc j) posts (entry.Drove j order.Open taken ∷ blocks) past) (Closes (suc j) posts blocks past) → StandsIn blocks e earlier
below_one j posts blocks past e earlier true shut rest c =
    let r = rest (entry.Drove j order.Open c.0 ∷ blocks) c.1 in
    below j c.0 blocks e earlier r.0 shut r.1
below_one j posts blocks past e earlier false shut rest c = rest blocks c

pub in_blocks : (j : ℕ) (posts : List Post) (blocks past : List Entry) (e : Entry) (earlier behind : List Entry) → opens e ≡ false → past ≡ behind ++ e ∷ earlier → Closes j posts blocks past → StandsIn blocks e earlier
in_blocks j [] blocks past e earlier behind shut is c = (behind, sym c ∙ is)
in_blocks j (p ∷ posts) blocks past e earlier behind shut is c =
    below_one j posts blocks past e earlier (state_of p).live shut (λ bs d. in_blocks (suc j) posts bs past e earlier behind shut is d) c

-- ---- so the run up to it is one

pub record Front (c : Codecs) (site : SitePlan) (front : List Entry) : Type 0 where
  pub posts : List Post
  pub run : IsRun c site front posts

pub front_of : (c : Codecs) (site : SitePlan) (past behind : List Entry) (e : Entry) (earlier : List Entry) → IsSiteRun c site past → opens e ≡ false → past ≡ behind ++ e ∷ earlier → Front c site (e ∷ earlier)
front_of c site past behind e earlier r shut is =
    let s = in_blocks 1 r.posts r.blocks past e earlier behind shut is r.closes in
    let f = front_run c site s.0 (e ∷ earlier) r.posts (subst (λ (es : List Entry). IsRun c site es r.posts) s.1 r.run) in
    record { posts = f.0; run = f.1 }

-- ---- the post that sent

pub newest_act : (act : Act) (taken : Bool) (past : List Seen) (steps : List Step) → Did act taken ∷ past ≡ map seen_of steps → (r : Option Reading) × (older : List Step) × (steps ≡ Does r act taken ∷ older) × (past ≡ map seen_of older)
newest_act act taken past [] is = cc
newest_act act taken past (Hears at event ∷ steps) is = cc
newest_act act taken past (Does r a t ∷ steps) is =
    let same_act : act ≡ a = cc in
    let same_taken : taken ≡ t = cc in
    let rest : past ≡ map seen_of steps = cc in
    (r, steps, ap (λ (x : Act). Does r x t ∷ steps) (sym same_act) ∙ ap (λ (b : Bool). Does r act b ∷ steps) (sym same_taken), rest)

tied_talks : (c : Codecs) (plan : PostPlan) (past : List Seen) (n : ℕ) (ending : Option EndCause) (lives : Option (List Seen)) (kept : Option Session) (reply : Option Spoken) (behind : Option EndCause) → Tie c plan past n ending lives kept reply behind
    → (xs : List Exchange) × Talks c plan.dialects.items past xs
tied_talks c plan past n ending None None reply behind t = ([], t)
tied_talks c plan past n ending None (Some ss) reply behind t = absurd t
tied_talks c plan past n ending (Some es) None reply behind t = absurd t
tied_talks c plan past n ending (Some es) (Some ss) reply behind t = (t.xs, t.talks)

pub steps_talk : (c : Codecs) (plan : PostPlan) (steps : List Step) → ReadsBack c → NegotiatesFirst c → IsPostRun c plan steps → (xs : List Exchange) × Talks c plan.dialects.items (map seen_of steps) xs
steps_talk c plan steps back neg run =
    let s = state plan steps in
    tied_talks c plan (map seen_of steps) (said plan steps) (state plan steps).agenda.ending (session (map seen_of steps)) (state plan steps).session (state plan steps).agenda.reply (state plan steps).agenda.behind_reply (steps_tied c plan steps back neg run)

some_of : (o : Option (List Seen)) → IsSome o → (es : List Seen) × (o ≡ Some es)
some_of None h = cc
some_of (Some es) h = (es, refl)

pub sees : (k : ℕ) (bytes : List ℕ) (taken : Bool) (earlier : List Entry) → seen k (entry.Sent k bytes taken ∷ earlier) ≡ Did (Send bytes) taken ∷ seen k earlier
sees k bytes taken earlier = let t = eq-eqb k k refl in rw t refl

pub record Sending (c : Codecs) (plan : PostPlan) (past : List Seen) (bytes : List ℕ) : Type 0 where
  pub lives : Lives c plan past
  pub sent : IsSent c plan past bytes

pub sending_by : (c : Codecs) (plan : PostPlan) (past : List Seen) (bytes : List ℕ) (taken : Bool) (r : Option Reading) (older : List Step) → ReadsBack c → AreDetermined c → NegotiatesFirst c → past ≡ map seen_of older → IsPostRun c plan (Does r (Send bytes) taken ∷ older)
    → AreHeard past → AreReadInOrder c plan (Does r (Send bytes) taken ∷ older) → IsSome (session past) → Sending c plan past bytes
sending_by c plan past bytes taken r older back det neg is run heard order lives =
    let here = some_of (session past) lives in
    let t = steps_talk c plan older back neg run.0 in
    record {
      lives = record { es = here.0; session_is = here.1; octets = stream_octets past here.0 heard here.1; xs = t.0; talks = subst (λ (xs : List Seen). Talks c plan.dialects.items xs t.0) (sym is) t.1 };
      sent = subst (λ (xs : List Seen). IsSent c plan xs bytes) (sym is) (step_sent c plan r bytes taken older back det neg run (subst AreHeard is heard) order);
    }

pub sending : (c : Codecs) (site : SitePlan) (k : ℕ) (bytes : List ℕ) (taken : Bool) (earlier : List Entry) (posts : List Post) → ReadsBack c → AreDetermined c → NegotiatesFirst c → IsRun c site (entry.Sent k bytes taken ∷ earlier) posts → (o : Of posts k)
    → Sending c o.post.plan (seen k earlier) bytes
sending c site k bytes taken earlier posts back det neg run o =
    let front = entry.Sent k bytes taken ∷ earlier in
    let all = subst (ArePostsOf c (entry.Sent k bytes taken ∷ earlier) 1) o.posts_are (run_posts c site (entry.Sent k bytes taken ∷ earlier) posts run) in
    let p = post_at c (entry.Sent k bytes taken ∷ earlier) k 1 o.before o.post o.behind o.number all in
    let n = newest_act (Send bytes) taken (seen k earlier) o.post.steps (sym (sees k bytes taken earlier) ∙ p.seen_is) in
    let quiet = runs_are_silent c site (entry.Sent k bytes taken ∷ earlier) posts o.before o.post o.behind run o.posts_are in
    let silent : IsSilent (seen k (entry.Sent k bytes taken ∷ earlier)) = subst (λ (i : ℕ). IsSilent (seen i (entry.Sent k bytes taken ∷ earlier))) (sym o.number) quiet in
    let lives : IsSilent (Did (Send bytes) taken ∷ seen k earlier) = subst IsSilent (sees k bytes taken earlier) silent in
    let order = runs_read_in_order c site (entry.Sent k bytes taken ∷ earlier) posts o.before o.post o.behind back det run o.posts_are in
    sending_by c o.post.plan (seen k earlier) bytes taken n.0 n.1 back det neg n.3 (subst (IsPostRun c o.post.plan) n.2 p.run) (run_heard c site earlier run.0 k run.1) (subst (AreReadInOrder c o.post.plan) n.2 order) lives.1

-- What the posts spell is what they may spell.
use Rattle.std.proofs.Common.{◌≡◌, ◌≤◌, ℕ, suc, ◌+◌, List, [], ◌∷◌, map, Option, Some, None, refl, sym, subst, arith, Bool, true, false, ◌==◌}
use Rattle.std.specs.Prelude.{sum}
use Rattle.std.proofs.lemmas.List.Sums.{sum_by-cons}
use Rattle.charge_world.specs.declared.entry.Entry.{Entry}
use Rattle.charge_world.specs.declared.entry.Entry.TheVariants as entry
use Rattle.charge_world.specs.declared.ports.Order.{Order}
use Rattle.session_words.specs.declared.plan.PostPlan.{PostPlan}
use Rattle.post_spec.specs.Codecs.{Codecs}
use Rattle.post_spec.specs.Sessions.{session}
use Rattle.post_spec.specs.Spelled.{IsSpelled, ReadsBack}
use Rattle.post_spec.specs.Steps.{Seen, Step, seen, seen_of}
use Rattle.station_spec.specs.States.{Spoken, Session}
use Rattle.session_words.specs.declared.cause.EndCause.{EndCause}
use Rattle.station_spec.specs.Acting.{state}
use Rattle.station_spec.specs.Sharing.{Post}
use Rattle.station_laws.specs.PostRuns.{IsPostRun, ArePostsOf}
use Rattle.station_laws.proofs.PostRuns.{run_posts}
use Rattle.spelled_watts.specs.Spelling.{SpellsWithin, AreSpelled, NegotiatesFirst, RunsSpellWithin}
use Rattle.spelled_watts.proofs.Links.{Tie}
use Rattle.spelled_watts.proofs.Shares.{said, pledged, pledged_total, pledged_within}
use Rattle.spelled_watts.proofs.Tied.{steps_tied}

-- of one post
pub record SpellsAtMost (c : Codecs) (plan : PostPlan) (past : List Seen) (n : ℕ) : Type 0 where
  pub watts : ℕ
  pub is : IsSpelled c plan past watts
  pub within : watts ≤ n

tie_spells : (c : Codecs) (plan : PostPlan) (past : List Seen) (n : ℕ) (ending : Option EndCause) (es : Option (List Seen)) (kept : Option Session) (reply : Option Spoken) (behind : Option EndCause) → Tie c plan past n ending es kept reply behind → SpellsAtMost c plan past n
tie_spells c plan past n ending None None reply behind t = record { watts = 0; is = record { xs = []; talks = t; watts_are = refl }; within = omega arith }
tie_spells c plan past n ending None (Some ss) reply behind t = absurd t
tie_spells c plan past n ending (Some es) None reply behind t = absurd t
tie_spells c plan past n ending (Some es) (Some ss) reply behind l = record { watts = _; is = record { xs = l.xs; talks = l.talks; watts_are = refl }; within = l.within }

steps_spell : (c : Codecs) (plan : PostPlan) (steps : List Step) → ReadsBack c → NegotiatesFirst c → IsPostRun c plan steps → SpellsAtMost c plan (map seen_of steps) (said plan steps)
steps_spell c plan steps back neg run =
    let s = state plan steps in
    tie_spells c plan (map seen_of steps) (said plan steps) s.agenda.ending (session (map seen_of steps)) s.session s.agenda.reply s.agenda.behind_reply (steps_tied c plan steps back neg run)

-- of all
pub record SpellTogether (c : Codecs) (past : List Entry) (k : ℕ) (posts : List Post) : Type 0 where
  pub watts : List ℕ
  pub are : AreSpelled c past k posts watts
  pub within : sum watts ≤ pledged_total posts

posts_spell : (c : Codecs) (past : List Entry) (k : ℕ) (posts : List Post) → ReadsBack c → NegotiatesFirst c → ArePostsOf c past k posts → SpellTogether c past k posts
posts_spell c past k [] back neg all = record { watts = []; are = refl; within = omega arith }
posts_spell c past k (p ∷ posts) back neg all =
    let one = steps_spell c p.plan p.steps back neg all.0.run in
    let rest = posts_spell c past (suc k) posts back neg all.1 in
    let x = sum_by-cons pledged p posts in
    let y : sum (one.watts ∷ rest.watts) ≡ one.watts + sum rest.watts = sum_by-cons (λ (n : ℕ). n) one.watts rest.watts in
    record {
      watts = one.watts ∷ rest.watts;
      are = (subst (λ (xs : List Seen). IsSpelled c p.plan xs one.watts) (sym all.0.seen_is) one.is, rest.are);
      within = omega (arith, x, y, one.within, rest.within);
    }

pub runs_spell_within : (c : Codecs) → RunsSpellWithin c
runs_spell_within c site past posts back neg run =
    let all = posts_spell c past 1 posts back neg (run_posts c site past posts run) in
    record { watts = all.watts; are = all.are; within = omega (arith, all.within, pledged_within c site past posts run) }

-- An order changes nothing of it.
drove_spells : (b : Bool) (c : Codecs) (plan : PostPlan) (past : List Entry) (k n : ℕ) (o : Order) (taken : Bool) (watts : ℕ) → (n == k) ≡ b → IsSpelled c plan (seen k past) watts → IsSpelled c plan (seen k (entry.Drove n o taken ∷ past)) watts
drove_spells true c plan past k n o taken watts e i = rw e (record { xs = i.xs; talks = i.talks; watts_are = i.watts_are })
drove_spells false c plan past k n o taken watts e i = rw e i

drove_all : (c : Codecs) (past : List Entry) (k n : ℕ) (o : Order) (taken : Bool) (posts : List Post) (watts : List ℕ) → AreSpelled c past k posts watts → AreSpelled c (entry.Drove n o taken ∷ past) k posts watts
drove_all c past k n o taken [] watts a = a
drove_all c past k n o taken (p ∷ posts) [] a = absurd a
drove_all c past k n o taken (p ∷ posts) (w ∷ watts) a = (drove_spells (n == k) c p.plan past k n o taken w refl a.0, drove_all c past (suc k) n o taken posts watts a.1)

pub drove_within : (c : Codecs) (limit : ℕ) (past : List Entry) (n : ℕ) (o : Order) (taken : Bool) (posts : List Post) → SpellsWithin c limit past posts → SpellsWithin c limit (entry.Drove n o taken ∷ past) posts
drove_within c limit past n o taken posts s = record { watts = s.watts; are = drove_all c past 1 n o taken posts s.watts s.are; within = s.within }

-- What applies in these pasts.
use Rattle.std.proofs.Common.{◌≡◌, ℕ, false, List, [], ◌∷◌, map, Some, None, Ok, refl, sym, ap, ◌∙◌, inl, inr}
use Rattle.charge_world.specs.declared.ports.Order.TheVariants as order
use Rattle.session_words.specs.declared.cause.EndCause.{EndCause}
use Rattle.session_words.specs.declared.cause.EndCause.TheVariants.{Gone, SetupTimeout}
use Rattle.session_words.specs.declared.plan.PostPlan.{PostPlan}
use Rattle.session_words.specs.Causes.{number_of}
use Rattle.v2gtp_frames.specs.Reading.{whole_at}
use Rattle.v2gtp_frames.proofs.Pieces.{starts_read}
use Rattle.post_spec.specs.Codecs.{Codecs}
use Rattle.post_spec.specs.Contactors.{live}
use Rattle.post_spec.specs.Sessions.{session}
use Rattle.post_spec.specs.Steps.{Give, Seen, Step, Hears, Does, Came, seen_of}
use Rattle.read_agendas.specs.Rows.{front}
use Rattle.caused_ends.specs.Applying.{unread, done_cause, lateness, telling, Applies, OfCall, OfDeadline, OfHearing, OfFrame, OfPayload}
use Rattle.caused_ends.specs.Ending.{IsCaused, FirstCause}
use Rattle.caused_ends.specs.WrongEnds.{begun, gone, EndsForNothing, EndsByAnother, EndsByLater, GoesOn, GoesOnLate, EndsRightly}

none_some : {k : EndCause} → None ≡ Some k → ⊥
none_some h = cc

seen_is : (a b : List Seen) → Some a ≡ Some b → a ≡ b
seen_is a b h = cc

-- where nothing is unread, no deadline has passed and no call was made, what was heard alone applies
heard_alone : (c : Codecs) (plan : PostPlan) (steps : List Step) (es : List Seen) (k : EndCause) → session (map seen_of steps) ≡ Some es → unread es ≡ [] → (lateness plan steps).ending ≡ None → (front (session (map seen_of steps)) (live (map seen_of steps))).ending ≡ None → done_cause steps ≡ None → Applies c plan steps k
    → (telling plan steps).ending ≡ Some k
heard_alone c plan steps es k l u late f d (OfCall x e) = absurd (none_some (sym d ∙ e))
heard_alone c plan steps es k l u late f d (OfDeadline j e) = absurd (none_some (sym late ∙ e))
heard_alone c plan steps es k l u late f d (OfHearing j n e) = e
heard_alone c plan steps es k l u late f d (OfFrame turn e) = absurd (none_some (sym f ∙ e))
heard_alone c plan steps es k l u late f d (OfPayload turn p) =
    let same = seen_is p.es es (sym p.session_is ∙ l) in
    let none = starts_read (unread p.es) (ap unread same ∙ u) in
    absurd (let x : Ok None ≡ Ok (Some p.at_front.count) = sym none ∙ p.at_front.whole in cc)

begun_quiet : (c : Codecs) (plan : PostPlan) (token : ℕ) (k : EndCause) → Applies c plan (begun token) k → ⊥
unfolding whole_at
begun_quiet c plan token k a = none_some (heard_alone c plan (begun token) _ k refl refl refl refl refl a)

gone_cause : (c : Codecs) (plan : PostPlan) (token : ℕ) (k : EndCause) → Applies c plan (gone token) k → Some Gone ≡ Some k
unfolding whole_at
gone_cause c plan token k a = heard_alone c plan (gone token) _ k refl refl refl refl refl a

gone_first : (c : Codecs) (plan : PostPlan) (token : ℕ) → FirstCause c plan (gone token) Gone
gone_first c plan token = inr (OfHearing refl refl refl, λ j h. h)

first_gone : (c : Codecs) (plan : PostPlan) (token : ℕ) (k : EndCause) → FirstCause c plan (gone token) k → Some Gone ≡ Some k
first_gone c plan token k (inl h) = absurd h
first_gone c plan token k (inr (a, n)) = gone_cause c plan token k a

number_gone : (n : ℕ) (k : EndCause) → Some Gone ≡ Some k → n ≡ number_of k → n ≡ 15
number_gone n k e h = let x : Gone ≡ k = cc in h ∙ sym (ap number_of x)

pub ends_for_nothing : (c : Codecs) → EndsForNothing c
ends_for_nothing c number plan token s = elim s.1.first [
  | inl h ↦ h
  | inr x ↦ begun_quiet c plan token s.1.cause x.0
]

pub ends_by_another : (c : Codecs) → EndsByAnother c
ends_by_another c number other plan token s = other (number_gone number s.1.cause (first_gone c plan token s.1.cause s.1.first) s.1.number_is)

failed_first : (c : Codecs) (plan : PostPlan) (token : ℕ) (k : EndCause) → FirstCause c plan (Does None (Give order.Open) false ∷ gone token) k → Some Gone ≡ Some k
failed_first c plan token k (inl h) = first_gone c plan token k h
failed_first c plan token k (inr (a, n)) = absurd (n Gone (gone_first c plan token))

seventeen : ◌≡◌ {A = ℕ} 17 15 → ⊥
seventeen h = cc

later_caused : (c : Codecs) (plan : PostPlan) (token : ℕ) → IsCaused c plan 17 (Does None (Give order.Open) false ∷ gone token) → ⊥
later_caused c plan token s = seventeen (number_gone 17 s.cause (failed_first c plan token s.cause s.first) s.number_is)

pub ends_by_later : (c : Codecs) → EndsByLater c
ends_by_later c plan token s = later_caused c plan token s.1

pub goes_on : (c : Codecs) → GoesOn c
goes_on c plan token s = s.1 Gone (gone_first c plan token)

pub goes_on_late : (c : Codecs) → GoesOnLate c
goes_on_late c plan token s = s.1 SetupTimeout (inr (OfDeadline refl refl, λ j h. h))

dead_alone : (c : Codecs) (plan : PostPlan) (steps : List Step) (k : EndCause) → session (map seen_of steps) ≡ None → (lateness plan steps).ending ≡ None → (telling plan steps).ending ≡ None → (front (session (map seen_of steps)) (live (map seen_of steps))).ending ≡ None → done_cause steps ≡ None → Applies c plan steps k → ⊥
dead_alone c plan steps k l late told f d (OfCall x e) = none_some (sym d ∙ e)
dead_alone c plan steps k l late told f d (OfDeadline j e) = none_some (sym late ∙ e)
dead_alone c plan steps k l late told f d (OfHearing j n e) = none_some (sym told ∙ e)
dead_alone c plan steps k l late told f d (OfFrame turn e) = none_some (sym f ∙ e)
dead_alone c plan steps k l late told f d (OfPayload turn p) = let x : None ≡ Some p.es = sym l ∙ p.session_is in cc

-- before the hearing, and before the connection, nothing applies
none_first : (c : Codecs) (plan : PostPlan) (k : EndCause) → FirstCause c plan [] k → ⊥
none_first c plan k (inl h) = h
none_first c plan k (inr (a, n)) = dead_alone c plan [] k refl refl refl refl refl a

begun_only : (c : Codecs) (plan : PostPlan) (token : ℕ) (k : EndCause) → Applies c plan (Hears 0 (Came token) ∷ []) k → ⊥
begun_only c plan token k a = dead_alone c plan (Hears 0 (Came token) ∷ []) k refl refl refl refl refl a

came_first : (c : Codecs) (plan : PostPlan) (token : ℕ) (k : EndCause) → FirstCause c plan (Hears 0 (Came token) ∷ []) k → ⊥
came_first c plan token k (inl h) = h
came_first c plan token k (inr (a, n)) = begun_only c plan token k a

pub ends_rightly : (c : Codecs) → EndsRightly c
ends_rightly c plan token = (
  ((tt, λ k f. none_first c plan k f), λ k f. came_first c plan token k f),
  record {
    cause = Gone;
    first = gone_first c plan token;
    only = λ other f. let x = first_gone c plan token other f in cc;
    number_is = refl;
  },
)

-- No word of that session was answered behind a Close of its own.
use Rattle.std.proofs.Common.{◌≡◌, ℕ, suc, ◌+◌, true, false, List, [], ◌∷◌, ◌++◌, length, Some, refl, sym, ap, subst, ◌∙◌, arith, inl, inr}
use Rattle.std.proofs.lemmas.List.{length-append}
use Rattle.session_words.specs.declared.word.Reply.{Reply}
use Rattle.session_words.specs.declared.word.Request.{Request}
use Rattle.post_spec.specs.Codecs.{Codecs}
use Rattle.post_spec.specs.Sessions.{session, stream, waits}
use Rattle.post_spec.specs.Steps.{Send, Seen, Did}
use Rattle.post_spec.specs.Talk.{Exchange, Answered, IsExchange, Talks}
use Rattle.post_spec.specs.Words.{IsPayloadAt}
use Rattle.read_runs.proofs.Counting.{counted}
use Rattle.safe_runs.specs.Started.{IsBehindClose, MandatedByOwn}
use Rattle.station_examples.specs.Fixtures.{ac_post}
use Rattle.served_examples.specs.OldClose.{started, OldClose}
use Rattle.served_examples.proofs.WrongPasts.{no_third, session_as, first_not, head_is}

tail_is : (a b : Exchange) (xs ys : List Exchange) → a ∷ xs ≡ b ∷ ys → xs ≡ ys
tail_is a b xs ys h = cc

-- the past before a reply that isn't the first
before_is : (c : Codecs) (heard bytes : List ℕ) (past : List Seen) (newest : Exchange) (earlier : List Exchange) (request : Request) (reply : Reply) (before : List Seen) → newest ≡ Answered request reply before → IsExchange c ac_post.dialects.items heard earlier bytes past newest → before ≡ past
before_is c heard bytes past newest [] request reply before e is = absurd (subst (λ (x : Exchange). IsExchange c ac_post.dialects.items heard [] bytes past x) e is)
before_is c heard bytes past newest (x ∷ xs) request reply before e is = (subst (λ (y : Exchange). IsExchange c ac_post.dialects.items heard (x ∷ xs) bytes past y) e is).1

-- of the first exchange
earlier_not : (c : Codecs) (response : List ℕ) (ys behind : List Exchange) (request : Request) (reply : Reply) (before : List Seen) (earlier : List Exchange) → length ys ≡ 1 → behind ++ Answered request reply before ∷ earlier ≡ ys → Talks c ac_post.dialects.items (started response) ys → ⊥
earlier_not c response ys [] request reply before earlier n h t =
    let l : length ys ≡ suc (length t.earlier) = ap length t.xs_are in
    first_not c _ response _ t.newest t.earlier request reply before (head_is (Answered request reply before) t.newest earlier t.earlier (h ∙ t.xs_are)) (omega (arith, n, l)) t.is
earlier_not c response ys (z ∷ behind) request reply before earlier n h t =
    let l : suc (length (behind ++ Answered request reply before ∷ earlier)) ≡ length ys = ap length h in
    let m = length-append behind (Answered request reply before ∷ earlier) in
    let k : length (Answered request reply before ∷ earlier) ≡ suc (length earlier) = refl in
    absurd (omega (arith, n, l, m, k))

started_at : (c : Codecs) (response bytes : List ℕ) (xs behind : List Exchange) (request : Request) (reply : Reply) (before : List Seen) (earlier : List Exchange) → length xs ≡ 2 → xs ≡ behind ++ Answered request reply before ∷ earlier → Talks c ac_post.dialects.items (Did (Send bytes) true ∷ started response) xs
    → before ≡ started response
started_at c response bytes xs [] request reply before earlier n h t =
    before_is c _ bytes (started response) t.newest t.earlier request reply before (head_is (Answered request reply before) t.newest earlier t.earlier (sym h ∙ t.xs_are)) t.is
started_at c response bytes xs (y ∷ behind) request reply before earlier n h t =
    let l : length xs ≡ suc (length t.earlier) = ap length t.xs_are in
    absurd (earlier_not c response t.earlier behind request reply before earlier (omega (arith, n, l)) (tail_is y t.newest (behind ++ Answered request reply before ∷ earlier) t.earlier (sym h ∙ t.xs_are)) t.before)

not_behind : (response : List ℕ) (before : List Seen) → before ≡ started response → IsBehindClose before → ⊥
not_behind response before e b =
    let l : session (started response) ≡ Some b.es = subst (λ (past : List Seen). session past ≡ Some b.es) e b.session_is in
    let s = session_as _ b.es l in
    let w : false ≡ true = subst (λ (us : List Seen). waits us ≡ true) (sym s) b.waited in
    cc

not_own : (c : Codecs) (response bytes : List ℕ) → MandatedByOwn c ac_post (Did (Send bytes) true ∷ started response) → ⊥
not_own c response bytes m =
    let past = Did (Send bytes) true ∷ started response in
    let n : 2 ≡ length m.mandated.xs = counted c ac_post.dialects.items past _ m.mandated.xs refl m.mandated.talks in
    let e = session_as _ m.mandated.es m.mandated.session_is in
    elim m.own [
      | inl s ↦ no_third (length m.mandated.xs) s.payload (sym n) (subst (λ (us : List Seen). IsPayloadAt (stream us) (length m.mandated.xs) s.payload) (sym e) s.next)
      | inr o ↦ not_behind response o.started.before (started_at c response bytes m.mandated.xs o.started.behind o.started.request o.started.reply o.started.before m.mandated.earlier (sym n) o.started.xs_are m.mandated.talks) o.closed
    ]

pub old_close : (c : Codecs) → OldClose c
old_close c response bytes = (refl, refl, λ m. not_own c response bytes m)

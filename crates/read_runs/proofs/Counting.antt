-- Each reply of a session is one of its exchanges.
use Rattle.std.proofs.Common.{◌≡◌, ℕ, suc, Bool, List, [], ◌∷◌, length, Option, Some, None, refl, sym, ap, subst, ◌∙◌}
use Rattle.charge_world.specs.declared.offer.Dialect.{Dialect}
use Rattle.post_spec.specs.Codecs.{Codecs}
use Rattle.post_spec.specs.Sessions.{arriving, session_behind, session, with_seen, replies}
use Rattle.post_spec.specs.Steps.{Event, Came, Bytes, Gone, Datagram, Plant, Clock, Over, Give, Send, Answer, End, Seen, Heard, Did}
use Rattle.post_spec.specs.Talk.{Exchange, OneMore, InSession, Unless, Talks}

came_replies : (past : List Seen) (came : Seen) → arriving past ≡ Some came → replies (came ∷ []) ≡ []
came_replies [] came a = cc
came_replies (Heard at (Came token) ∷ past) came a = let x : Heard at (Came token) ≡ came = cc in subst (λ (y : Seen). replies (y ∷ []) ≡ []) x refl
came_replies (Heard at (Bytes bytes) ∷ past) came a = cc
came_replies (Heard at Gone ∷ past) came a = cc
came_replies (Heard at (Datagram bytes) ∷ past) came a = cc
came_replies (Heard at (Plant event) ∷ past) came a = cc
came_replies (Heard at Clock ∷ past) came a = cc
came_replies (Heard at Over ∷ past) came a = cc
came_replies (Did act taken ∷ past) came a = came_replies past came a

abbrev Counted : List Seen → List Exchange → Type 0
Counted es xs = length (replies es) ≡ length xs

counted_with : (x : Seen) (lives : Option (List Seen)) (es : List Seen) (xs : List Exchange) → with_seen x lives ≡ Some es → ((zs : List Seen) → lives ≡ Some zs → Counted (x ∷ zs) xs) → Counted es xs
counted_with x None es xs k f = cc
counted_with x (Some zs) es xs k f = let y : x ∷ zs ≡ es = cc in subst (λ (ys : List Seen). Counted ys xs) y (f zs refl)

counted_heard : (c : Codecs) (offers : List Dialect) (past es : List Seen) (at : ℕ) (e : Event) (xs : List Exchange) (came : Option Seen) → arriving past ≡ came → with_seen (Heard at e) (session_behind came (session past)) ≡ Some es → Unless came (Talks c offers past xs) (xs ≡ [])
    → ((zs : List Seen) → session past ≡ Some zs → Talks c offers past xs → Counted zs xs) → Counted es xs
counted_heard c offers past es at e xs (Some x) a k t f =
    counted_with (Heard at e) (Some (x ∷ [])) es xs k (λ zs l. let y : x ∷ [] ≡ zs = cc in ap length (sym (ap replies y)) ∙ ap length (came_replies past x a) ∙ sym (ap length t))
counted_heard c offers past es at e xs None a k t f = counted_with (Heard at e) (session past) es xs k (λ zs l. f zs l t)

longer : (zs : List (List ℕ)) (bytes : List ℕ) (newest : Exchange) (earlier xs : List Exchange) → xs ≡ newest ∷ earlier → length zs ≡ length earlier → length (bytes ∷ zs) ≡ length xs
longer zs bytes newest earlier xs e h = ap suc h ∙ sym (ap length e)

counted_sent : (c : Codecs) (offers : List Dialect) (past es : List Seen) (bytes : List ℕ) (taken : Bool) (xs : List Exchange) (lives : Option (List Seen)) → session past ≡ lives → with_seen (Did (Send bytes) taken) lives ≡ Some es
    → InSession lives (λ zs. OneMore c offers zs past bytes (Talks c offers past) xs) (xs ≡ []) → ((zs : List Seen) (ys : List Exchange) → session past ≡ Some zs → Talks c offers past ys → Counted zs ys) → Counted es xs
counted_sent c offers past es bytes taken xs None l k t f = cc
counted_sent c offers past es bytes taken xs (Some zs) l k t f =
    counted_with (Did (Send bytes) taken) (Some zs) es xs k (λ ys m. let y : zs ≡ ys = cc in longer (replies ys) bytes t.newest t.earlier xs t.xs_are (subst (λ (us : List Seen). Counted us t.earlier) y (f zs t.earlier l t.before)))

pub counted : (c : Codecs) (offers : List Dialect) (past es : List Seen) (xs : List Exchange) → session past ≡ Some es → Talks c offers past xs → length (replies es) ≡ length xs
counted c offers [] es xs s t = cc
counted c offers (Heard at e ∷ past) es xs s t = counted_heard c offers past es at e xs (arriving past) refl s t (λ zs l u. counted c offers past zs xs l u)
counted c offers (Did (Give o) taken ∷ past) es xs s t = counted_with (Did (Give o) taken) (session past) es xs s (λ zs l. counted c offers past zs xs l t)
counted c offers (Did (Answer bytes) taken ∷ past) es xs s t = counted_with (Did (Answer bytes) taken) (session past) es xs s (λ zs l. counted c offers past zs xs l t)
counted c offers (Did (End cause) taken ∷ past) es xs s t = cc
counted c offers (Did (Send bytes) taken ∷ past) es xs s t = counted_sent c offers past es bytes taken xs (session past) refl s t (λ zs ys l u. counted c offers past zs ys l u)

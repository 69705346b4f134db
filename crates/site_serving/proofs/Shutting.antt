-- The orders by which a run is closed, post by post.
use Rattle.std.proofs.Common.{◌≡◌, ◌<◌, ◌≤◌, ℕ, zero, suc, ◌+◌, Bool, true, false, List, [], ◌∷◌, ◌++◌, length, map, drop, get_or, refl, sym, ap, subst, ◌∙◌, arith}
use Rattle.std.specs.Prelude.{MatchBool}
use Rattle.std.proofs.lemmas.List.{length-map, get_or_default}
use Rattle.charge_world.specs.declared.entry.Entry.{Entry}
use Rattle.charge_world.specs.declared.entry.Entry.TheVariants as entry
use Rattle.charge_world.specs.declared.ports.Order.TheVariants as order
use Rattle.station_spec.specs.States.{State}
use Rattle.station_spec.specs.Sharing.{Post, state_of}
use Rattle.station_spec.specs.Runs.{Closes}
use Rattle.site_posts.specs.declared.place.Place.{Place}
use Rattle.site_posts.specs.Filling.{no_place, at}
use Rattle.site_posts.specs.Places.{place_of}
use Rattle.site_serving.specs.Serving.{ClosesTo}
use Rattle.site_acts.proofs.Frame.{Among, among, places_cut, at_cut, drop_cut}

drop_zero : {A : Type 0} (before : List A) (x : A) (behind : List A) → drop (length before) (before ++ x ∷ behind) ≡ x ∷ behind
drop_zero [] x behind = refl
drop_zero (y ∷ before) x behind = drop_zero before x behind

drop_all : {A : Type 0} (xs : List A) → drop (length xs) xs ≡ []
drop_all [] = refl
drop_all (x ∷ xs) = drop_all xs

cut_at : (posts : List Post) (i : ℕ) (w : Among posts i) → drop i posts ≡ w.post ∷ drop (i + 1) posts
cut_at posts i w =
    let here : drop i posts ≡ w.post ∷ w.behind = ap (λ (ps : List Post). drop i ps) w.are ∙ subst (λ (n : ℕ). drop n (w.before ++ w.post ∷ w.behind) ≡ w.post ∷ w.behind) w.count (drop_zero w.before w.post w.behind) in
    let next : drop (i + 1) posts ≡ w.behind = ap (λ (ps : List Post). drop (i + 1) ps) w.are ∙ subst (λ (n : ℕ). drop (n + 1) (w.before ++ w.post ∷ w.behind) ≡ w.behind) w.count (drop_cut w.before w.post w.behind) in
    here ∙ sym (ap (λ (ps : List Post). w.post ∷ ps) next)

-- how the post at a place stands
pub live_at : (places : List Place) (posts : List Post) (i : ℕ) (x : Place) (b : Bool) → places ≡ map place_of posts → (w : Among posts i) → i < length places → x ≡ get_or places i x → x.post.live ≡ b → (state_of w.post).live ≡ b
live_at places posts i x b are w within is live =
    let cut = places_cut places w.before w.post w.behind (are ∙ ap (map place_of) w.are) in
    let here : x ≡ place_of w.post = is ∙ get_or_default places i x no_place within ∙ at_cut places i w.before w.post w.behind cut w.count in
    sym (ap (λ (p : Place). p.post.live) here) ∙ live

one_more : (i : ℕ) → suc (i + 1) ≡ (i + 1) + 1
one_more i = omega arith

opens_if : (k : ℕ) (post : Post) (rest : List Post) (past final : List Entry) (taken : Bool) (b : Bool) → (state_of post).live ≡ b → b ≡ true → Closes (suc k) rest (entry.Drove k order.Open taken ∷ past) final → Closes k (post ∷ rest) past final
opens_if k post rest past final taken true e t h = rw e (taken, h)
opens_if k post rest past final taken false e t h = cc

leaves_if : (k : ℕ) (post : Post) (rest : List Post) (past final : List Entry) (b : Bool) → (state_of post).live ≡ b → b ≡ false → Closes (suc k) rest past final → Closes k (post ∷ rest) past final
leaves_if k post rest past final true e t h = cc
leaves_if k post rest past final false e t h = rw e h

pub closes_live : (posts : List Post) (blocks past : List Entry) (i : ℕ) (taken : Bool) (w : Among posts i) → (state_of w.post).live ≡ true → ClosesTo posts i blocks past → ClosesTo posts (i + 1) blocks (entry.Drove (i + 1) order.Open taken ∷ past)
closes_live posts blocks past i taken w live c = λ final h.
    c final (subst (λ (ps : List Post). Closes (i + 1) ps past final) (sym (cut_at posts i w))
    (opens_if (i + 1) w.post (drop (i + 1) posts) past final taken true live refl
    (subst (λ (n : ℕ). Closes n (drop (i + 1) posts) (entry.Drove (i + 1) order.Open taken ∷ past) final) (sym (one_more i)) h)))

pub closes_idle : (posts : List Post) (blocks past : List Entry) (i : ℕ) (w : Among posts i) → (state_of w.post).live ≡ false → ClosesTo posts i blocks past → ClosesTo posts (i + 1) blocks past
closes_idle posts blocks past i w live c = λ final h.
    c final (subst (λ (ps : List Post). Closes (i + 1) ps past final) (sym (cut_at posts i w))
    (leaves_if (i + 1) w.post (drop (i + 1) posts) past final false live refl
    (subst (λ (n : ℕ). Closes n (drop (i + 1) posts) past final) (sym (one_more i)) h)))

pub closes_none : (posts : List Post) (blocks past : List Entry) → past ≡ blocks → ClosesTo posts 0 blocks past
closes_none posts blocks past e = λ final h. subst (λ (p : List Entry). Closes 1 posts p final) e h

pub closes_all : (posts : List Post) (blocks past : List Entry) (i : ℕ) → i ≡ length posts → ClosesTo posts i blocks past → Closes 1 posts blocks past
closes_all posts blocks past i e c =
    let none : drop i posts ≡ [] = ap (λ (n : ℕ). drop n posts) e ∙ drop_all posts in
    c past (subst (λ (ps : List Post). Closes (i + 1) ps past past) (sym none) refl)

-- the post at each place
pub among_places : (places : List Place) (posts : List Post) (i : ℕ) → places ≡ map place_of posts → i < length places → Among posts i
among_places places posts i are less = among posts i (subst (λ (n : ℕ). i < n) (ap length are ∙ length-map posts place_of) less)

pub all_places : (places : List Place) (posts : List Post) (i : ℕ) → places ≡ map place_of posts → i ≡ length places → i ≡ length posts
all_places places posts i are e = e ∙ ap length are ∙ length-map posts place_of

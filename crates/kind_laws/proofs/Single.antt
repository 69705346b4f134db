-- Elements that are divided among particles of one element each.
use Rattle.std.proofs.Common.{◌≡◌, ℕ, zero, suc, ◌≤◌, List, [], ◌∷◌, ◌++◌, length, Some, None, refl, sym, ap, subst, ◌∙◌, ◌⊎◌, inl, inr, arith, slice_get}
use Rattle.std.proofs.lemmas.List.{append-nil}
use Rattle.exi_schema.specs.declared.tables.AttributeOf.{AttributeOf}
use Rattle.exi_schema.specs.declared.tables.Datatype.{Datatype}
use Rattle.exi_schema.specs.declared.tables.Member.{Member}
use Rattle.exi_schema.specs.Plain.{PlainKind, PlainParticle, containing, one_of, once, perhaps, up_to}
use Rattle.exi_schema.specs.Steps.{datatype_of, simple_at}
use Rattle.exi_documents.specs.Trees.{Value, Trees, none, simple, complex}
use Rattle.exi_documents.specs.Values.{IsValue}
use Rattle.kind_laws.specs.Kinds.{IsMemberOf, StandsFor, AreDivided, AreChosen, HaveValues, AreElements}

-- ---- what stands for a particle

pub sole : (name kind i : ℕ) (m : Member) → slice_get (one_of name kind ∷ []) i ≡ Some m → m ≡ one_of name kind
sole name kind zero m is = let same : Some (one_of name kind) ≡ Some m = is in cc
sole name kind (suc i) m is = let wrong : None ≡ Some m = is in absurd cc

once_stands : (name kind : ℕ) (own : List Member) → StandsFor (once name kind) own → own ≡ one_of name kind ∷ []
once_stands name kind [] stands = let least = stands.least in absurd (omega (arith, least))
once_stands name kind (m ∷ []) stands = ap (λ x. x ∷ []) (sole name kind stands.own.0.index m stands.own.0.found)
once_stands name kind (m ∷ other ∷ more) stands = let most = stands.most in absurd (omega (arith, most))

perhaps_stands : (name kind : ℕ) (own : List Member) → StandsFor (perhaps name kind) own → (own ≡ []) ⊎ (own ≡ one_of name kind ∷ [])
perhaps_stands name kind [] stands = inl refl
perhaps_stands name kind (m ∷ []) stands = inr (ap (λ x. x ∷ []) (sole name kind stands.own.0.index m stands.own.0.found))
perhaps_stands name kind (m ∷ other ∷ more) stands = let most = stands.most in absurd (omega (arith, most))

pub once_divided : (name kind : ℕ) (particles : List PlainParticle) (members : List Member) → AreDivided (once name kind ∷ particles) members →
    (others : List Member) × AreDivided particles others × (members ≡ one_of name kind ∷ others)
once_divided name kind particles members d = (d.1, d.3, d.4 ∙ ap (λ own. own ++ d.1) (once_stands name kind d.0 d.2))

pub perhaps_divided : (name kind : ℕ) (members : List Member) → AreDivided (perhaps name kind ∷ []) members → (members ≡ []) ⊎ (members ≡ one_of name kind ∷ [])
perhaps_divided name kind members d =
    let own : members ≡ d.0 = d.4 ∙ ap (λ others. d.0 ++ others) d.3 ∙ append-nil d.0 in
    elim (perhaps_stands name kind d.0 d.2) [
      | inl is ↦ inl (own ∙ is)
      | inr is ↦ inr (own ∙ is)
    ]

-- ---- elements

abbrev pub AreHeld : List PlainKind → List Member → Trees → Type 0
AreHeld kinds members trees = AreElements IsValue kinds members trees

pub nothing_held : (kinds : List PlainKind) (members : List Member) (trees : Trees) → members ≡ [] → AreHeld kinds members trees → trees ≡ none
nothing_held kinds members none is h = refl
nothing_held kinds members (simple name value more) is h = let wrong = sym is ∙ h.2 in absurd cc
nothing_held kinds members (complex name attributes children more) is h = let wrong = sym is ∙ h.2 in absurd cc

pub record HasField (kinds : List PlainKind) (name : ℕ) (d : Datatype) (others : List Member) (trees : Trees) : Type 0 where
  pub value : Value
  pub more : Trees
  pub trees_are : trees ≡ simple name value more
  pub is_value : IsValue d value
  pub held : AreHeld kinds others more

pub has_field : (kinds : List PlainKind) (name kind : ℕ) (d : Datatype) (members others : List Member) (trees : Trees) → members ≡ one_of name kind ∷ others → simple_at kinds kind ≡ Some d →
    AreHeld kinds members trees → HasField kinds name d others trees
has_field kinds name kind d members others none is valued_by h = let wrong = sym is ∙ h in absurd cc
has_field kinds name kind d members others (simple n value more) is valued_by h =
    let same : one_of name kind ∷ others ≡ h.0 ∷ h.1 = sym is ∙ h.2 in
    let member : h.0 ≡ one_of name kind = cc in
    let behind : h.1 ≡ others = cc in
    let both : Some h.4.0 ≡ Some d = sym h.4.1 ∙ ap (λ (m : Member). simple_at kinds m.kind) member ∙ valued_by in
    let datatype : h.4.0 ≡ d = cc in
    record {
      value = value;
      more = more;
      trees_are = ap (λ k. simple k value more) (h.3 ∙ ap (λ (m : Member). m.name) member);
      is_value = subst (λ x. IsValue x value) datatype h.4.2;
      held = subst (λ ms. AreHeld kinds ms more) behind h.5;
    }
has_field kinds name kind d members others (complex n attributes children more) is valued_by h =
    let same : one_of name kind ∷ others ≡ h.0 ∷ h.1 = sym is ∙ h.2 in
    let member : h.0 ≡ one_of name kind = cc in
    let wrong : None ≡ Some d = sym (ap datatype_of h.7) ∙ ap (λ (m : Member). simple_at kinds m.kind) member ∙ valued_by in absurd cc

none_chosen : (kinds : List PlainKind) (declared chosen : List AttributeOf) (values : List (ℕ × Value)) → declared ≡ [] → AreChosen declared chosen → HaveValues IsValue kinds chosen values → values ≡ []
none_chosen kinds [] chosen values is all have = subst (λ c. HaveValues IsValue kinds c values) all have
none_chosen kinds (a ∷ declared) chosen values is all have = absurd cc

pub record HasElement (kinds : List PlainKind) (name : ℕ) (particles : List PlainParticle) (others : List Member) (trees : Trees) : Type 0 where
  pub children : Trees
  pub more : Trees
  pub inside : List Member
  pub trees_are : trees ≡ complex name [] children more
  pub divided : AreDivided particles inside
  pub held_inside : AreHeld kinds inside children
  pub held : AreHeld kinds others more

pub has_element : (kinds : List PlainKind) (name kind : ℕ) (particles : List PlainParticle) (members others : List Member) (trees : Trees) → members ≡ one_of name kind ∷ others →
    slice_get kinds kind ≡ Some (containing [] particles) → AreHeld kinds members trees → HasElement kinds name particles others trees
has_element kinds name kind particles members others none is contains h = let wrong = sym is ∙ h in absurd cc
has_element kinds name kind particles members others (simple n value more) is contains h =
    let same : one_of name kind ∷ others ≡ h.0 ∷ h.1 = sym is ∙ h.2 in
    let member : h.0 ≡ one_of name kind = cc in
    let wrong : Some h.4.0 ≡ None = sym h.4.1 ∙ ap (λ (m : Member). simple_at kinds m.kind) member ∙ ap datatype_of contains in absurd cc
has_element kinds name kind particles members others (complex n attributes children more) is contains h =
    let same : one_of name kind ∷ others ≡ h.0 ∷ h.1 = sym is ∙ h.2 in
    let member : h.0 ≡ one_of name kind = cc in
    let behind : h.1 ≡ others = cc in
    let both : Some (containing h.4 h.5) ≡ Some (containing [] particles) = sym h.7 ∙ ap (λ (m : Member). slice_get kinds m.kind) member ∙ contains in
    let bare : h.4 ≡ [] = cc in
    let parts : h.5 ≡ particles = cc in
    let held = h.8 in
    let no_attributes = none_chosen kinds h.4 held.chosen attributes bare held.are_chosen held.have_values in
    record {
      children = children;
      more = more;
      inside = h.6;
      trees_are = ap (λ k. complex k attributes children more) (h.3 ∙ ap (λ (m : Member). m.name) member) ∙ ap (λ l. complex name l children more) no_attributes;
      divided = subst (λ ps. AreDivided ps h.6) parts h.9;
      held_inside = h.10;
      held = subst (λ ms. AreHeld kinds ms more) behind h.11;
    }

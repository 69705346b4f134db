-- ISO 15118-2:2014, 8.5.2.20 to 8.5.2.23 (ServiceParameterList, ParameterSet, Parameter): what sets of parameters say. Which one is picked is
-- own.
use Rattle.std.specs.Prelude.{◌≡◌, ℕ, ℤ, pos, negsuc, nat_lt, Bool, List, ◌∷◌, ◌++◌, map, Option, Some}
use Rattle.std.specs.List.{All, Any}
use Rattle.std.specs.Str.{chars}
use Rattle.service_spec.specs.declared.Value.{Value}
use Rattle.service_spec.specs.declared.Value.TheVariants as value
use Rattle.service_spec.specs.declared.Parameter.{Parameter}
use Rattle.service_spec.specs.declared.ParameterSet.{ParameterSet}

-- ---- what is said

-- a truth value, a number of any kind, or the code points of a text
pub data Content : Type 0 where
  Truth : Bool → Content
  Number : ℤ → Content
  Text : List ℕ → Content

-- a number of so many bits, of which half the values are below this
abbrev pub is_below : ℕ → ℤ → Bool
is_below bound (pos n) = nat_lt n bound
is_below bound (negsuc n) = nat_lt n bound

-- a parameter: the code points of its name, and its value, or none for a physical one
pub record Said : Type 0 where
  pub name : List ℕ
  pub content : Option Content

pub record SaidSet : Type 0 where
  pub id : ℤ
  pub parameters : List Said

abbrev pub content_of : Value → Content
content_of (value.Truth truth) = Truth truth
content_of (value.Number number) = Number number
content_of (value.Text text) = Text (chars text.now)

abbrev pub said_of : Parameter → Said
said_of p = record { name = chars p.name.now; content = Some (content_of p.value) }

abbrev pub said_set_of : ParameterSet → SaidSet
said_set_of s = record { id = s.id; parameters = map said_of s.parameters.items }

-- ---- which set is picked

-- a parameter meets a pair that has its name and its value; a physical value is that of no pair
pub record Meets (pair parameter : Said) : Type 0 where
  pub name : parameter.name ≡ pair.name
  pub content : parameter.content ≡ pair.content

-- some parameter does
abbrev pub IsMet : List Said → Said → Type 0
IsMet parameters pair = Any (Meets pair) parameters

-- each pair that is wanted is met
abbrev pub Fits : List Said → List Said → Type 0
Fits want parameters = All (IsMet parameters) want

-- the set of this identifier is the first that fits
pub record IsPicked (want : List Said) (sets : List SaidSet) (id : ℤ) : Type 0 where
  pub before : List SaidSet
  pub set : SaidSet
  pub behind : List SaidSet
  pub split : sets ≡ before ++ set ∷ behind
  pub missed : All (λ s. Fits want s.parameters → ⊥) before
  pub fits : Fits want set.parameters
  pub id_is : id ≡ set.id

abbrev pub PicksNone : List Said → List SaidSet → Type 0
PicksNone want sets = All (λ s. Fits want s.parameters → ⊥) sets

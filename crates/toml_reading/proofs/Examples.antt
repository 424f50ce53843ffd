-- The first of small lists, the values of small trees, and the ends of ranges, by computing.
use Rattle.std.proofs.Common.{◌≡◌, ℕ, pos, negsuc, true, false, List, [], ◌∷◌, Some, None, refl}
use Rattle.std.specs.Prelude.{codes}
use Rattle.toml.specs.Data.{Data, string, integer, boolean, array, table}
use Rattle.toml.specs.Data.{no_items, item, Members, no_members, member}
use Rattle.toml_reading.specs.First.{first}
use Rattle.toml_reading.specs.Tree.{items_in, items_at, members_in, text_in}
use Rattle.toml_reading.specs.Range.{whole_in, are_whole, is_count}

-- ---- the first of a list

abbrev two_numbers : List ℕ
two_numbers = 1 ∷ 2 ∷ []

first_of_two : first two_numbers ≡ Some 1
first_of_two = refl

abbrev nothing : List ℕ
nothing = []

first_of_none : first nothing ≡ None
first_of_none = refl

-- ---- values

-- gates = [7, 9] and name = "gate-7"
abbrev two : Data
two = array (item (integer (pos 7)) (item (integer (pos 9)) no_items))

abbrev row : Members
row = member (codes "gates") two (member (codes "name") (string (codes "gate-7")) no_members)

items_of_a_list : items_at (codes "gates") row ≡ integer (pos 7) ∷ integer (pos 9) ∷ []
items_of_a_list = refl

items_of_a_text : items_at (codes "name") row ≡ []
items_of_a_text = refl

items_of_no_key : items_at (codes "kinds") row ≡ []
items_of_no_key = refl

items_of_a_row : items_in (Some (table row)) ≡ []
items_of_a_row = refl

keys_of_a_row : members_in (table row) ≡ row
keys_of_a_row = refl

keys_of_a_list : members_in two ≡ no_members
keys_of_a_list = refl

text_of_a_text : text_in (Some (string (codes "gate-7"))) ≡ codes "gate-7"
text_of_a_text = refl

text_of_a_truth : text_in (Some (boolean true)) ≡ []
text_of_a_truth = refl

text_of_no_value : text_in None ≡ []
text_of_no_value = refl

-- ---- ranges

below : whole_in 1 9 (integer (pos 0)) ≡ None
below = refl

lowest : whole_in 1 9 (integer (pos 1)) ≡ Some 1
lowest = refl

highest : whole_in 1 9 (integer (pos 9)) ≡ Some 9
highest = refl

above : whole_in 1 9 (integer (pos 10)) ≡ None
above = refl

-- `negsuc 0` is -1
negative : whole_in 0 9 (integer (negsuc 0)) ≡ None
negative = refl

no_number : whole_in 0 9 (boolean true) ≡ None
no_number = refl

whole_numbers : are_whole (integer (pos 7) ∷ integer (negsuc 0) ∷ []) ≡ true
whole_numbers = refl

a_number_and_a_text : are_whole (integer (pos 7) ∷ string (codes "9") ∷ []) ≡ false
a_number_and_a_text = refl

too_few : is_count 1 64 0 ≡ false
too_few = refl

least : is_count 1 64 1 ≡ true
least = refl

most : is_count 1 64 64 ≡ true
most = refl

too_many : is_count 1 64 65 ≡ false
too_many = refl

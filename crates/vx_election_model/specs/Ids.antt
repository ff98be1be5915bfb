-- The form of ids.
use Rattle.std.specs.Prelude.{ℕ, ◌&&◌, ◌||◌, ◌==◌, Bool, List, length}
use Rattle.std.specs.List.{list_all}
use Rattle.vx_json.specs.Reading.{is_within}

-- one of A-Z a-z 0-9 - _ .
abbrev pub is_id_character : ℕ → Bool
is_id_character b = is_within 65 90 b || is_within 97 122 b || is_within 48 57 b || b == 45 || b == 95 || b == 46

-- 1 to 64 of these characters
unfoldable pub is_id : List ℕ → Bool
is_id text = is_within 1 64 (length text) && list_all is_id_character text

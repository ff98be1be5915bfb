-- The statements that the journal's file is asked.
use Rattle.std.specs.Prelude.{ℕ, List, codes}

-- makes the table where it isn't there; a place is taken once, and each record has a body
unfoldable pub table_text : List ℕ
table_text = codes "CREATE TABLE IF NOT EXISTS journal (place INTEGER PRIMARY KEY, body BLOB NOT NULL)"

-- counts all records
unfoldable pub count_text : List ℕ
count_text = codes "SELECT count(*) FROM journal"

-- shows the record at a place
unfoldable pub body_text : List ℕ
body_text = codes "SELECT body FROM journal WHERE place = ?1"

-- adds a record at a place, and is refused where that is taken
unfoldable pub insert_text : List ℕ
insert_text = codes "INSERT INTO journal (place, body) VALUES (?1, ?2)"

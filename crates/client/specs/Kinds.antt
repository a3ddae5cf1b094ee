-- Which request a line is.
use Rattle.std.specs.Prelude.{◌&&◌, ℕ, List, Bool, false, cond, codes, is_some, option_and_then}
use Rattle.std.specs.Option.{option_map_or}
use Rattle.std.specs.Str.{bytes_eq}
use Rattle.serde_json.specs.Data.{Data}
use Rattle.serde_json.specs.Find.{as_array, as_bool, as_str, get}
use Rattle.serde_json.specs.Read.{read}
use Rattle.client.specs.declared.kind.Kind.{Kind}
use Rattle.client.specs.declared.kind.Kind.TheVariants.{Check, Other, Read, Watch, Write}

-- the request with this name; another one if no request has it
abbrev pub name_kind : List ℕ → Kind
name_kind name =
    cond (bytes_eq name (codes "write")) Write
    (cond (bytes_eq name (codes "read")) Read
    (cond (bytes_eq name (codes "check")) Check
    (cond (bytes_eq name (codes "watch")) Watch Other)))

-- that of a value, by its `op`
abbrev pub data_kind : Data → Kind
data_kind d = option_map_or name_kind (option_and_then as_str (get (codes "op") d)) Other

-- that of a line; what is no JSON is another one
abbrev pub line_kind : List ℕ → Kind
line_kind line = option_map_or data_kind (read line) Other

-- the value has a member of this kind at the key
abbrev pub has_text : List ℕ → Data → Bool
has_text key d = is_some (option_and_then as_str (get key d))

abbrev pub has_list : List ℕ → Data → Bool
has_list key d = is_some (option_and_then as_array (get key d))

abbrev pub has_bool : List ℕ → Data → Bool
has_bool key d = is_some (option_and_then as_bool (get key d))

-- the value has the members of an answer to such a request; nothing answers what is none
abbrev pub has_answer : Kind → Data → Bool
has_answer Write d = has_text (codes "zookie") d
has_answer Read d = has_list (codes "sets") d && has_text (codes "zookie") d
has_answer Check d = has_bool (codes "member") d && has_text (codes "zookie") d
has_answer Watch d = has_list (codes "events") d && has_text (codes "heartbeat") d
has_answer Other d = false

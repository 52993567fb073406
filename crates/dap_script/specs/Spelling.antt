-- How the lines of a script are spelled.
use Rattle.std.specs.Prelude.{◌≡◌, ◌⊎◌, ℕ, ◌≤◌, ◌<◌, ◌^◌, ◌-◌, List, [], ◌∷◌, ◌++◌, codes, length, map, take, true, false, nat_eq, if◌then◌else◌, All, Option, Some, None}
use Rattle.std.specs.Fmt.{decimal}
use Rattle.std.specs.List.{IsDistinct, flat_map, join_with_byte}
use Rattle.std.specs.Str.{bytes_eq}
use Rattle.base64.specs.Engines.{standard}
use Rattle.base64.specs.GeneralPurpose.{encode_of}
use Rattle.hex.specs.Hex.{encode_lower}
use Rattle.dap_bytes.specs.Name.{IsName}
use Rattle.dap_bytes.specs.Shown.{node_word}
use Rattle.dap_bytes.specs.Spans.{HasBuckets, one_bucket}
use Rattle.dap_bytes.specs.declared.limits.TheConstants.{GREATEST_MINIMUM, GREATEST_PRECISION, LATEST_TIME}
use Rattle.dap_bytes.specs.declared.span.Span.{Span}
use Rattle.vdaf_api.specs.Kind.{IsKind}
use Rattle.vdaf_api.specs.TaskNumbers.{IsExpiry}
use Rattle.vdaf_api.specs.declared.kind.Kind.{Kind}
use Rattle.vdaf_api.specs.declared.kind.TheConstants.{MOST_NUMBERS}
use Rattle.vdaf_api.specs.declared.kind.Kind.TheVariants.{Count, Sum, Histogram, Vector}
use Rattle.dap_script.specs.Script.{is_among, lines_of, task_names}
use Rattle.dap_script.specs.Words.{is_line_char}
use Rattle.dap_script.specs.declared.line.Line.{Line}
use Rattle.dap_script.specs.declared.line.Line.TheVariants.{Blank, Task, Now, Measure, Upload, Collect, Restart}

-- numbers with a comma between any two
abbrev pub list_text : List ℕ → List ℕ
list_text numbers = join_with_byte 44 (map decimal numbers)

-- the words that spell a kind
abbrev pub kind_words : Kind → List (List ℕ)
kind_words Count = codes "count" ∷ []
kind_words (Sum bits) = codes "sum" ∷ decimal bits ∷ []
kind_words (Histogram bounds) = codes "histogram" ∷ list_text bounds ∷ []
kind_words (Vector len bits) = codes "vector" ∷ decimal len ∷ decimal bits ∷ []

-- the words at the end of a task line that say when the task expires
abbrev pub expiry_words : Option ℕ → List (List ℕ)
expiry_words None = []
expiry_words (Some t) = codes "expires" ∷ decimal t ∷ []

-- the word of a number of buckets, which 1 has not
abbrev pub bucket_words : ℕ → List (List ℕ)
bucket_words buckets = if nat_eq buckets 1 then [] else decimal buckets ∷ []

-- the words that spell a batch
abbrev pub span_words : Span → List (List ℕ)
span_words span = decimal span.start ∷ bucket_words span.buckets

-- a batch as it is printed
abbrev pub span_text : Span → List ℕ
span_text span = join_with_byte 32 (span_words span)

-- the words that spell a line; a blank one has none
abbrev pub words_of : Line → List (List ℕ)
words_of Blank = []
words_of (Task name kind min precision expires) =
    codes "task" ∷ name ∷ kind_words kind ++ decimal min ∷ decimal precision ∷ expiry_words expires
words_of (Now t) = codes "now" ∷ decimal t ∷ []
words_of (Measure name id time value seed) =
    codes "measure" ∷ name ∷ encode_lower id ∷ decimal time ∷ list_text value ∷ encode_lower seed ∷ []
words_of (Upload report) = codes "upload" ∷ encode_of standard report ∷ []
words_of (Collect name span) = codes "collect" ∷ name ∷ span_words span
words_of (Restart node) = codes "restart" ∷ node_word node ∷ []

-- the words with a space between any two
abbrev pub spelling : Line → List ℕ
spelling line = join_with_byte 32 (words_of line)

-- the end of a task line that says when the task expires: each of its words behind a space
abbrev pub expiry_text : Option ℕ → List ℕ
expiry_text expires = flat_map (λ word. 32 ∷ word) (expiry_words expires)

-- the words, and a line feed behind them
abbrev pub ended : Line → List ℕ
ended line = spelling line ++ 10 ∷ []

-- each is below 256
abbrev pub AreBytes : List ℕ → Type 0
AreBytes bytes = All (λ byte. byte < 256) bytes

-- 16 bytes
abbrev pub IsOctets : List ℕ → Type 0
IsOctets bytes = (length bytes ≡ 16) × AreBytes bytes

-- each fits 64 bits
abbrev pub AreWords : List ℕ → Type 0
AreWords numbers = All (λ number. number < 2 ^ 64) numbers

-- the numbers of a measurement: 1 to 1,024, each of which fits 64 bits
pub record IsMeasurement (numbers : List ℕ) : Type 0 where
  pub some : 1 ≤ length numbers
  pub few : length numbers ≤ MOST_NUMBERS
  pub words : AreWords numbers

-- each bound of a histogram fits 64 bits
abbrev pub HasWords : Kind → Type 0
HasWords Count = Unit {0}
HasWords (Sum bits) = Unit {0}
HasWords (Histogram bounds) = AreWords bounds
HasWords (Vector len bits) = Unit {0}

-- each part of the line is in its range
abbrev pub IsInRange : Line → Type 0
IsInRange Blank = Unit {0}
IsInRange (Task name kind min precision expires) =
    IsName name × IsKind kind × (1 ≤ min) × (min ≤ GREATEST_MINIMUM)
    × (1 ≤ precision) × (precision ≤ GREATEST_PRECISION) × HasWords kind × IsExpiry expires
IsInRange (Now t) = t ≤ LATEST_TIME
IsInRange (Measure name id time value seed) =
    IsName name × IsOctets id × (time ≤ LATEST_TIME) × IsMeasurement value × IsOctets seed
IsInRange (Upload report) = (0 < length report) × AreBytes report
IsInRange (Collect name span) = IsName name × (span.start ≤ LATEST_TIME) × HasBuckets span
IsInRange (Restart node) = Unit {0}

-- a number sign, and ASCII characters but the line feed after it
abbrev pub IsComment : List ℕ → Type 0
IsComment text = (rest : List ℕ) × (text ≡ 35 ∷ rest) × All (λ c. is_line_char c ≡ true) rest

-- the words of a collection of one bucket that says so, which it need not
pub record SaysOne (words : List (List ℕ)) (line : Line) : Type 0 where
  pub name : List ℕ
  pub start : ℕ
  pub collects : line ≡ Collect name (one_bucket start)
  pub with_one : words ≡ words_of line ++ codes "1" ∷ []

-- words that are a line's: those that spell it, and those of a collection of one bucket that says so
abbrev pub AreWordsOf : List (List ℕ) → Line → Type 0
AreWordsOf words line = (words ≡ words_of line) ⊎ SaysOne words line

-- a line's words, with a space between any two, each part of the line in its range
pub record IsWritten (text : List ℕ) (line : Line) : Type 0 where
  pub words : List (List ℕ)
  pub are_words : AreWordsOf words line
  pub joined : text ≡ join_with_byte 32 words
  pub in_range : IsInRange line

-- a text that is a line: the words of one, or a comment, which is as a blank line
abbrev pub SpellsLine : List ℕ → Line → Type 0
SpellsLine text line = IsWritten text line ⊎ ((line ≡ Blank) × IsComment text)

-- a text that collects one bucket: its 1 may be written or not
pub record CollectsOne (text name : List ℕ) (start : ℕ) : Type 0 where
  pub is_name : IsName name
  pub is_time : start ≤ LATEST_TIME
  pub with_or_without : (text ≡ join_with_byte 32 (codes "collect" ∷ name ∷ decimal start ∷ []))
      ⊎ (text ≡ join_with_byte 32 (codes "collect" ∷ name ∷ decimal start ∷ codes "1" ∷ []))

-- texts that are these lines, one each
abbrev pub SpellEach : List (List ℕ) → List Line → Type 0
SpellEach [] [] = Unit {0}
SpellEach [] (line ∷ lines) = ⊥
SpellEach (text ∷ texts) [] = ⊥
SpellEach (text ∷ texts) (line ∷ lines) = SpellsLine text line × SpellEach texts lines

-- the end of a line: a line feed, before which a carriage return may stand
abbrev pub IsLineEnd : List ℕ → Type 0
IsLineEnd end = (end ≡ 10 ∷ []) ⊎ (end ≡ 13 ∷ 10 ∷ [])

-- bytes that begin with a line and its end, and the rest after it
pub record Begins (line : Line) (Goes : List ℕ → Type 0) (bytes : List ℕ) : Type 0 where
  pub text : List ℕ
  pub end : List ℕ
  pub rest : List ℕ
  pub joined : bytes ≡ text ++ end ++ rest
  pub spelled : SpellsLine text line
  pub ended : IsLineEnd end
  pub goes_on : Goes rest

-- bytes that are one line without an end, which isn't empty
abbrev pub IsUnended : Line → List Line → List ℕ → Type 0
IsUnended line lines bytes = (lines ≡ []) × (0 < length bytes) × SpellsLine bytes line

-- bytes that spell these lines: each with its end, which the last may lack
abbrev pub SpellsLines : List ℕ → List Line → Type 0
SpellsLines bytes [] = bytes ≡ []
SpellsLines bytes (line ∷ lines) = Begins line (λ rest. SpellsLines rest lines) bytes ⊎ IsUnended line lines bytes

-- lines that are a script: each is in its ranges, and no name stands in two task lines
pub record IsScript (lines : List Line) : Type 0 where
  pub in_range : All IsInRange lines
  pub distinct : IsDistinct bytes_eq (task_names lines)

-- lines that are a script beside names: none of its tasks has one of these
pub record IsScriptBeside (names : List (List ℕ)) (lines : List Line) : Type 0 where
  pub is_script : IsScript lines
  pub others : All (λ name. is_among names name ≡ false) (task_names lines)

-- bytes that spell the lines of a script beside these names
pub record SpellsScript (names : List (List ℕ)) (bytes : List ℕ) (lines : List Line) : Type 0 where
  pub spelled : SpellsLines bytes lines
  pub is_script : IsScriptBeside names lines

-- texts that are the lines of some script beside these names
pub record IsReadable (names texts : List (List ℕ)) : Type 0 where
  pub lines : List Line
  pub spelled : SpellEach texts lines
  pub is_script : IsScriptBeside names lines

-- Line n, counted from 1, is the first with which the lines so far are not those of a script beside these names.
pub record IsFirstFault (names : List (List ℕ)) (bytes : List ℕ) (n : ℕ) : Type 0 where
  pub some : 1 ≤ n
  pub within : n ≤ length (lines_of bytes)
  pub before : IsReadable names (take (n - 1) (lines_of bytes))
  pub at : ¬ IsReadable names (take n (lines_of bytes))

-- Document 01, "Refused, by place": its sixteen numbers, by name, and those of document 02.
use Rattle.std.specs.Prelude.{ℕ, List, [], ◌∷◌}

-- too short for its header, or other mark
abbrev pub header : ℕ
header = 1

-- version not 1; of a log, and at a plain start, neither 1 nor 2 (document 02, (b))
abbrev pub version : ℕ
version = 2

-- L outside 1..32,768; n above 15; a proof's n not the verifier's
abbrev pub count : ℕ
count = 3

-- length not as computed
abbrev pub size : ℕ
size = 4

-- weight over 1,440 (with the index)
abbrev pub weight : ℕ
weight = 5

-- challenge, twist, v or point outside 1..P-1; a list not as long as n asks
abbrev pub argument : ℕ
argument = 6

-- plain total outside its limits
abbrev pub total : ℕ
total = 7

-- item beyond L, or close with items wanting
abbrev pub items : ℕ
items = 8

-- lent buffer too short
abbrev pub buffer : ℕ
buffer = 9

-- call not next in the run
abbrev pub order : ℕ
order = 10

-- field number P or more handed to the verifier
abbrev pub number : ℕ
number = 11

-- message or verdict out of turn
abbrev pub turn : ℕ
turn = 12

-- matrix entry: row or column 2^n or more (with the index)
abbrev pub place : ℕ
place = 13

-- matrix entry out of order (with the index)
abbrev pub sorted : ℕ
sorted = 14

-- matrix entry: value 0, P or more (with the index)
abbrev pub value : ℕ
value = 15

-- vector's length not 2^n, or a number P or more in it
abbrev pub vector : ℕ
vector = 16

-- document 02, (a): "no logs or more than eight .. or unequal n"
abbrev pub logs : ℕ
logs = 17

-- document 02, (b): "reading outside its version's range" (with the index)
abbrev pub reading : ℕ
reading = 18

-- every number, in the table's order
abbrev pub numbers : List ℕ
numbers =
    header ∷ version ∷ count ∷ size ∷ weight ∷ argument ∷ total ∷ items ∷ buffer ∷ order ∷ number ∷ turn ∷ place ∷ sorted ∷ value ∷ vector
    ∷ logs ∷ reading ∷ []

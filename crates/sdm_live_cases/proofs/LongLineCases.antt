-- Lines of 1,024 bytes and of more, of a program that tells each line again.
use Rattle.std.proofs.Common.{◌≡◌, refl, ℕ, List, [], ◌∷◌, ◌++◌, replicate, codes, true, false}
use Rattle.sdm_live.specs.ByLines.{answers}
use Rattle.sdm_live.specs.Progress.{Progress, Rules, with_byte, with_bytes, with_end}

abbrev again : Rules (List ℕ)
again = record { next = λ s line. line; told = λ s. s ++ codes ";"; too_long = codes "!" }

-- a line of which so many bytes `a` have come
abbrev came_so_far : ℕ → Progress (List ℕ)
came_so_far n = record { state = []; line = replicate n 97; is_over = false; text = [] }

-- one was too many
abbrev over : Progress (List ℕ)
over = record { state = []; line = []; is_over = true; text = codes "!" }

-- the 1,024th byte joins the line
last_fits : with_byte again (came_so_far 1_023) 98
    ≡ record { state = []; line = replicate 1_023 97 ++ 98 ∷ []; is_over = false; text = [] }
last_fits = refl

-- the 1,025th is one too many: it is answered at once, and makes nothing of the state
one_too_many : with_byte again (came_so_far 1_024) 98 ≡ over
one_too_many = refl

-- what follows up to the end of the line is passed over, with no further answer; the next line is one of its own
passed_over : (with_bytes again over (codes "bc\nd\n")).text ≡ codes "!d;"
passed_over = refl

passed_over_at_the_end : (with_end again (with_bytes again over (codes "bc"))).text ≡ codes "!"
passed_over_at_the_end = refl

-- the end of a line after its 1,024th byte is no byte too many
ends_in_time : (with_byte again (came_so_far 1_024) 13).text ≡ replicate 1_024 97 ++ codes ";"
ends_in_time = refl

-- so it is in the words of lines
three_lines : answers again [] (replicate 1_025 97 ∷ replicate 1_024 97 ∷ codes "b" ∷ [])
    ≡ codes "!" ++ replicate 1_024 97 ++ codes ";b;"
three_lines = refl

-- The site before each build of a demo.
use Rattle.std.specs.Prelude.{ℕ, ◌+◌, List, [], ◌∷◌, ◌++◌, Option, Some, None, nat_eq, bytes_eq, if◌then◌else◌, codes, map}
use Rattle.demo_pictures.specs.Demo.{next_number, port_of, common_text, machine_text, demo_picture}
use Rattle.load_path.specs.declared.picture.PictureFile.{PictureFile}
use Rattle.load_path.specs.declared.picture.Content.{Content}
use Rattle.load_path.specs.declared.picture.Content.TheVariants.{Bytes, TooLong}
use Rattle.outside.specs.declared.source.MemFile.{MemFile}

-- a picture's file as a source has it
abbrev pub bytes_of : Content → Option (List ℕ)
bytes_of (Bytes bytes) = Some bytes
bytes_of TooLong = None

abbrev pub file_of : PictureFile → MemFile
file_of f = record { name = f.name; content = bytes_of f.content }

-- the files, of which the one with this name is given another text
abbrev pub content_after : List ℕ → List ℕ → MemFile → Option (List ℕ)
content_after name text f = if bytes_eq f.name name then Some text else f.content

abbrev pub with_content : List ℕ → List ℕ → MemFile → MemFile
with_content name text f = record { name = f.name; content = content_after name text f }

abbrev pub replaced : List ℕ → List ℕ → List MemFile → List MemFile
replaced name text files = map (with_content name text) files

-- a line is added to a text
abbrev pub touched : List ℕ → List ℕ
touched text = text ++ codes "# touched\n"

-- the port after this one, and 1 after the last
abbrev pub port_after : ℕ → ℕ
port_after port = if nat_eq port 65535 then 1 else port + 1

-- The site that is made from a number; then a line is added to the first machine's template, then
-- its port is another one, and then a line is added to the template that all machines include.
abbrev pub demo_pictures : ℕ → ℕ → List (List MemFile)
demo_pictures count start =
    let port = port_of (next_number start) in
    let first = map file_of (demo_picture count start) in
    let second = replaced (codes "h0.pan") (touched (machine_text 0 port)) first in
    let third = replaced (codes "h0.pan") (touched (machine_text 0 (port_after port))) second in
    let fourth = replaced (codes "site/common.pan") (touched common_text) third in
    first ∷ second ∷ third ∷ fourth ∷ []

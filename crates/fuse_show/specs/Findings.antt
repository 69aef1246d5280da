-- The line of what is wrong in a tree (defined by this project).
use Rattle.std.specs.Prelude.{List, ℕ, ◌++◌, codes}
use Rattle.fuse_show.specs.declared.findings.Finding.{Finding}
use Rattle.fuse_show.specs.declared.findings.Finding.TheVariants.{HighCounter, MoreUsedThanRoom, NoDirectoryAtRoot}
use Rattle.fuse_show.specs.declared.findings.Finding.TheVariants.{EntryOfAnotherDirectory, CookieOutOfOrder, CookieNotGiven, NoName}
use Rattle.fuse_show.specs.declared.findings.Finding.TheVariants.{LeadsToRoot, NodeNotGiven, NodeMissing, NodeOfAnotherDirectory}
use Rattle.fuse_show.specs.declared.findings.Finding.TheVariants.{NoMode, DeviceNumberOfNoDevice, LinkInPlainStore, NoSize}
use Rattle.fuse_show.specs.declared.findings.Finding.TheVariants.{ContentCutShort, ZeroInTarget, OtherDirectories, MoreEntriesThanNodes}
use Rattle.fuse_show.specs.declared.findings.Finding.TheVariants.{MoreNodes, FewerNodes, OtherWritten, OtherBlocks, Strays}
use Rattle.fuse_show.specs.declared.findings.Finding.TheVariants.{BlocksBeyond}
use Rattle.fuse_show.specs.Names.{name_text}

abbrev pub finding_text : Finding → List ℕ
finding_text HighCounter = codes "a counter is too high"
finding_text MoreUsedThanRoom = codes "more is in use than it has room for"
finding_text NoDirectoryAtRoot = codes "it is no directory"
finding_text EntryOfAnotherDirectory = codes "its entry is of another directory"
finding_text CookieOutOfOrder = codes "its cookie is out of order"
finding_text CookieNotGiven = codes "its cookie was not given out"
finding_text NoName = codes "its name is none"
finding_text LeadsToRoot = codes "it is the root"
finding_text NodeNotGiven = codes "the number of its node was not given out"
finding_text NodeMissing = codes "its node is missing"
finding_text NodeOfAnotherDirectory = codes "its node is of another directory"
finding_text NoMode = codes "its mode is none"
finding_text DeviceNumberOfNoDevice = codes "it is no device, and has the number of one"
finding_text LinkInPlainStore = codes "it is a symbolic link, and the store is plain"
finding_text NoSize = codes "its size is none of such a node"
finding_text ContentCutShort = codes "its content has fewer bytes than its size says"
finding_text ZeroInTarget = codes "its target has a zero byte"
finding_text OtherDirectories = codes "its directories are not those that are counted"
finding_text MoreEntriesThanNodes = codes "it has more entries than there are nodes"
finding_text MoreNodes = codes "more nodes lie in it than are counted"
finding_text FewerNodes = codes "fewer nodes lie in it than are counted"
finding_text OtherWritten = codes "its written blocks are not those that are counted"
finding_text OtherBlocks = codes "its files take not as many blocks as are counted"
finding_text Strays = codes "the tables have rows of no node or entry in the tree"
finding_text BlocksBeyond = codes "a file has blocks after its end"

-- the line of a text at a path from the root on
abbrev pub line_at : List ℕ → List ℕ → List ℕ
line_at path text = codes "/" ++ (name_text path ++ (codes ": " ++ (text ++ codes "\n")))

abbrev pub finding_line : List ℕ → Finding → List ℕ
finding_line path f = line_at path (finding_text f)

-- of a path where a look failed
abbrev pub unread_line : List ℕ → List ℕ
unread_line path = line_at path (codes "its rows can't be read")

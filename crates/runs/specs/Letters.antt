-- The letters of readrun's words, as bytes. Assumes nothing.
use Rattle.std.specs.Prelude.{ℕ}

abbrev pub A : ℕ
A = 65

abbrev pub C : ℕ
C = 67

abbrev pub E : ℕ
E = 69

abbrev pub F : ℕ
F = 70

abbrev pub I : ℕ
I = 73

abbrev pub K : ℕ
K = 75

abbrev pub L : ℕ
L = 76

abbrev pub M : ℕ
M = 77

abbrev pub N : ℕ
N = 78

abbrev pub O : ℕ
O = 79

abbrev pub R : ℕ
R = 82

abbrev pub S : ℕ
S = 83

abbrev pub T : ℕ
T = 84

abbrev pub U : ℕ
U = 85

abbrev pub X : ℕ
X = 88

abbrev pub a : ℕ
a = 97

abbrev pub d : ℕ
d = 100

abbrev pub e : ℕ
e = 101

abbrev pub f : ℕ
f = 102

abbrev pub i : ℕ
i = 105

abbrev pub k : ℕ
k = 107

abbrev pub l : ℕ
l = 108

abbrev pub n : ℕ
n = 110

abbrev pub o : ℕ
o = 111

abbrev pub r : ℕ
r = 114

abbrev pub s : ℕ
s = 115

abbrev pub t : ℕ
t = 116

abbrev pub y : ℕ
y = 121

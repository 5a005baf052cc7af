mod Squares

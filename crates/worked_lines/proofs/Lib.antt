mod ShortPage

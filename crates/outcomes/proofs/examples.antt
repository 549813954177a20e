mod Echo
